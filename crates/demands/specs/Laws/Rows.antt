-- Answers given row by row. Assumes nothing.
use Rattle.std.specs.Prelude.{◌≡◌, ◌↔◌}
use Rattle.std.proofs.Common.{sym, ◌∙◌, subst}

-- where each row is what is said, and one of the rows holds, exactly the rows that hold are said
pub exactly : {A : Type 0} (Says : A → Type 0) {said : A} → ((o : A) → Says o → said ≡ o) → (o : A) × Says o → (o : A) → (said ≡ o) ↔ Says o
exactly Says only some o = (λ e. subst Says (sym (only some.0 some.1) ∙ e) some.1, only o)
