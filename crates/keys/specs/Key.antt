-- A key as one number, in the order of a dataset: the rank of its kind, and then RCID.
use Rattle.std.specs.Prelude.{ℕ, ◌+◌, ◌*◌, ◌≤◌, ◌<◌, List, length, get_or, drop, eqb, ltb}
use Rattle.base.specs.Choice.{pick}
use Rattle.fields.specs.Bytes.{le}
use Rattle.rules.specs.declared.Kind.{Kind}
use Rattle.rules.specs.declared.Kind.TheVariants.{Info, Point, Multi, Feature}

-- the rank of a kind by its RCNM; 0 for no kind
unfoldable pub rank_of : ℕ → ℕ
rank_of rcnm = pick (eqb rcnm 150) 1 (pick (eqb rcnm 110) 2 (pick (eqb rcnm 115) 3 (pick (eqb rcnm 100) 4 0)))

-- RCNM and RCID as one number
abbrev pub key_number : ℕ → ℕ → ℕ
key_number rcnm rcid = rank_of rcnm * 4294967296 + rcid

-- the key whose five bytes stand at q; 0, no key, where the bytes end before them
unfoldable pub key_at : List ℕ → ℕ → ℕ
key_at b q = pick (ltb (length b) (q + 5)) 0 (key_number (get_or b q 0) (le 4 (drop (q + 1) b)))

-- the RCID of a key is of four bytes
unfoldable pub KeyFits : List ℕ → ℕ → Type 0
KeyFits b q = q + 5 ≤ length b → le 4 (drop (q + 1) b) < 4294967296

-- the kind with this rank
unfoldable pub kind_ranked : ℕ → Kind
kind_ranked r = pick (eqb r 1) Info (pick (eqb r 2) Point (pick (eqb r 3) Multi Feature))
