-- What a board lends: its grammar, its table and its signing.
use Rattle.std.specs.Prelude.{◌≡◌}
use Rattle.tables.specs.declared.Grammar.{Grammar}
use Rattle.tables.specs.declared.Table.{Table}
use Rattle.tables.specs.declared.Signing.{Signing}
use Rattle.board.specs.declared.Board.{Board}

abbrev pub GrammarOf : Board → Grammar → Type 0
GrammarOf b g = (g.sizes ≡ b.sizes) × (g.left.now ≡ b.left) × (g.lens.now ≡ b.lens) × (g.rights.now ≡ b.rights)

abbrev pub TableOf : Board → Table → Type 0
TableOf b t = (t.states ≡ b.states) × (t.entries.now ≡ b.table)

abbrev pub SigningOf : Board → Signing → Type 0
SigningOf b s = (s.rules.now ≡ b.srule) × (s.targets.now ≡ b.sgoto)
