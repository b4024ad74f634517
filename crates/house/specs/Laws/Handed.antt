-- How long the house notation's lists are. Assumes nothing.
use Rattle.std.specs.Prelude.{◌≡◌, refl, length}
use Rattle.house.specs.House.{house_left, house_lens, house_rights, house_table}

pub left-length : length house_left ≡ 16
unfolding house_left
left-length = refl

pub lens-length : length house_lens ≡ 16
unfolding house_lens
lens-length = refl

pub rights-length : length house_rights ≡ 40
unfolding house_rights
rights-length = refl

pub table-length : length house_table ≡ 980
unfolding house_table
table-length = refl

-- these four
pub ruleset lengths = (left-length, lens-length, rights-length, table-length)
