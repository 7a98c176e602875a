-- The acts of an update's ATTR field, read from its bytes.
use Rattle.std.specs.Prelude.{List, ℕ, zero, suc, ◌+◌, get_or, ltb, eqb}
use Rattle.base.specs.Choice.{pick}
use Rattle.forest.specs.Acts.{Acts, done, act}
use Rattle.rules.specs.Trees.{instruction_of}
use Rattle.tree.specs.Source.{past}
use Rattle.items.specs.Items.{u16, text_from}

-- the act of the tuple at an offset, of place q, with the acts on its children and those that follow
unfoldable pub act_at : List ℕ → ℕ → ℕ → Acts → Acts → Acts
act_at u at q us rest = act q (instruction_of (get_or u (at + 6) 0)) (u16 u at) (u16 u (at + 2)) (text_from u (at + 7)) us rest

-- the acts of a run, and the offset and place of the tuple behind it
pub record Reading : Type 0 where
  pub acts : Acts
  pub at : ℕ
  pub place : ℕ

-- such a reading
abbrev pub reading : Acts → ℕ → ℕ → Reading
reading us a q = record { acts = us; at = a; place = q }

-- the acts on the children of the tuple at an offset, of place q: a delete has none
unfoldable pub below : List ℕ → ℕ → ℕ → Reading → Reading
below u at q kids = pick (eqb (get_or u (at + 6) 0) 2) (reading done (past u at) (q + 1)) kids

-- at most n acts of parent p from an offset up to e, the first of place q
unfoldable pub read_up_to : ℕ → List ℕ → ℕ → ℕ → ℕ → ℕ → Reading
read_up_to zero u e at p q = reading done at q
read_up_to (suc n) u e at p q =
    let kids = below u at q (read_up_to n u e (past u at) q (q + 1)) in
    let rest = read_up_to n u e kids.at p kids.place in
    let one = reading (act_at u at q kids.acts rest.acts) rest.at rest.place in
    pick (ltb at e) (pick (eqb (u16 u (at + 4)) p) one (reading done at q)) (reading done at q)

-- the acts of parent p
unfoldable pub read_at : List ℕ → ℕ → ℕ → ℕ → ℕ → Reading
read_at u e at p q = read_up_to e u e at p q

-- the acts on the children of the tuple at an offset, of place q
unfoldable pub kids_at : List ℕ → ℕ → ℕ → ℕ → Reading
kids_at u e at q = below u at q (read_at u e (past u at) q (q + 1))
