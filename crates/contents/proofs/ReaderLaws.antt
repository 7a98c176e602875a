-- Laws of the readers of an identifier: each number where it stands. Assumes nothing.
use mathlib.Core.Path.{◌≡◌, refl, sym, ◌∙◌}
use mathlib.Core.Bool.{Bool, true, false, true≢false}
use mathlib.Core.List.{List, ◌∷◌}
use Prim.Native.Nat.{ℕ, ◌+◌, ◌≤◌}
use lib.ListN.{length, drop}
use Rattle.std.specs.Prelude.{Option, Some}
use Rattle.base.specs.Choice.{pick}
use Rattle.base.specs.Check.{ok, pass}
use Rattle.base.proofs.CheckLaws.{bind_inv}
use Rattle.fields.specs.Bytes.{le}
use Rattle.fields.specs.Table.{head_of, tuple_of}
use Rattle.fields.specs.Content.{fill}
use Rattle.fields.specs.declared.Format.TheVariants.{Irid, Prid, Mrid, Frid}
use Rattle.fields.proofs.ValueLaws.{head_number}
use Rattle.fields.proofs.WiderLaws.{irid, prid, mrid, frid, format_wider}
use Rattle.skeleton.specs.File.{Field}
use Rattle.skeleton.specs.Place.{between, place_at, fields_at}
use Rattle.skeleton.specs.declared.directory.Shape.{Shape}
use Rattle.skeleton.specs.declared.place.Place.{Place}
use Rattle.skeleton.proofs.PlaceLaws.{fields_more}
use Rattle.rules.specs.Kind.{coded}
use Rattle.rules.specs.Content.{insert_only, ident_format, stands, number5}
use Rattle.rules.specs.Record.{ident_of}
use Rattle.rules.specs.declared.Kind.{Kind}
use Rattle.rules.specs.declared.Kind.TheVariants.{Info, Point, Multi, Feature}
use Rattle.rules.specs.declared.Mode.{Mode}
use Rattle.rules.proofs.FilledLaws.{stands_fill}
use Rattle.records.specs.Answers.{ruin_place}
use Rattle.contents.specs.Fit.{identified}

-- ---- a number of w bytes at o

-- it lies in the bytes, and is v
abbrev Reads : List ℕ → ℕ → ℕ → ℕ → Type 0
Reads b o w v = (o + w ≤ length b) × (v ≡ le w (drop o b))

rcid_there : (k : Kind) (b : List ℕ) → identified k b ≡ true → Reads b 1 4 (ident_of k b).rcid
unfolding identified ident_of ident_format head_of coded
rcid_there Info b e = head_number (head_of Irid) (tuple_of Irid) b e 1 1 4 refl refl
rcid_there Point b e = head_number (head_of Prid) (tuple_of Prid) b e 1 1 4 refl refl
rcid_there Multi b e = head_number (head_of Mrid) (tuple_of Mrid) b e 1 1 4 refl refl
rcid_there Feature b e = head_number (head_of Frid) (tuple_of Frid) b e 1 1 4 refl refl

code_there : (k : Kind) (b : List ℕ) → identified k b ≡ true → coded k ≡ true → Reads b 5 2 (ident_of k b).code
unfolding identified ident_of ident_format head_of coded
code_there Info b e z = head_number (head_of Irid) (tuple_of Irid) b e 2 5 2 refl refl
code_there Point b e z = absurd (true≢false (sym z))
code_there Multi b e z = absurd (true≢false (sym z))
code_there Feature b e z = head_number (head_of Frid) (tuple_of Frid) b e 2 5 2 refl refl

code_none : (k : Kind) (b : List ℕ) → coded k ≡ false → 0 ≡ (ident_of k b).code
unfolding ident_of coded
code_none Info b z = absurd (true≢false z)
code_none Point b z = refl
code_none Multi b z = refl
code_none Feature b z = absurd (true≢false z)

rver_there : (k : Kind) (b : List ℕ) → identified k b ≡ true → Reads b (pick (coded k) 7 5) 2 (ident_of k b).rver
unfolding identified ident_of ident_format head_of coded
rver_there Info b e = head_number (head_of Irid) (tuple_of Irid) b e 3 7 2 refl refl
rver_there Point b e = head_number (head_of Prid) (tuple_of Prid) b e 2 5 2 refl refl
rver_there Multi b e = head_number (head_of Mrid) (tuple_of Mrid) b e 2 5 2 refl refl
rver_there Feature b e = head_number (head_of Frid) (tuple_of Frid) b e 3 7 2 refl refl

ruin_there : (k : Kind) (b : List ℕ) → identified k b ≡ true → Reads b (pick (coded k) 9 7) 1 (ident_of k b).ruin
unfolding identified ident_of ident_format head_of coded
ruin_there Info b e = head_number (head_of Irid) (tuple_of Irid) b e 4 9 1 refl refl
ruin_there Point b e = head_number (head_of Prid) (tuple_of Prid) b e 3 7 1 refl refl
ruin_there Multi b e = head_number (head_of Mrid) (tuple_of Mrid) b e 3 7 1 refl refl
ruin_there Feature b e = head_number (head_of Frid) (tuple_of Frid) b e 4 9 1 refl refl

-- ---- what the functions return

module _ (k : Kind) (b : List ℕ) (f : identified k b ≡ true) where
  pub rcid_in_lem : 1 + 4 ≤ length b
  rcid_in_lem = (rcid_there k b f).0

  pub rcid_is : (v : ℕ) → v ≡ le 4 (drop 1 b) → v ≡ (ident_of k b).rcid
  rcid_is v e = e ∙ sym (rcid_there k b f).1

  module _ (t : Bool) (et : t ≡ coded k) where
    pub code_in : t ≡ true → 5 + 2 ≤ length b
    code_in z = (code_there k b f (sym et ∙ z)).0

    pub code_is : t ≡ true → (v : ℕ) → v ≡ le 2 (drop 5 b) → v ≡ (ident_of k b).code
    code_is z v e = e ∙ sym (code_there k b f (sym et ∙ z)).1

    pub code_zero : t ≡ false → 0 ≡ (ident_of k b).code
    code_zero z = code_none k b (sym et ∙ z)

  module _ (at : ℕ) (ea : at ≡ pick (coded k) 7 5) where
    rver_at : Reads b at 2 (ident_of k b).rver
    rver_at = rw ea (rver_there k b f)

    pub rver_in : at + 2 ≤ length b
    rver_in = rver_at.0

    pub rver_is : (v : ℕ) → v ≡ le 2 (drop at b) → v ≡ (ident_of k b).rver
    rver_is v e = e ∙ sym rver_at.1

  module _ (at : ℕ) (ea : at ≡ ruin_place k) where
    ruin_at : Reads b at 1 (ident_of k b).ruin
    unfolding ruin_place
    ruin_at = rw ea (ruin_there k b f)

    pub ruin_in : at + 1 ≤ length b
    ruin_in = ruin_at.0

    pub ruin_is : (v : ℕ) → v ≡ le 1 (drop at b) → v ≡ (ident_of k b).ruin
    ruin_is v e = e ∙ sym ruin_at.1

pub ruleset reader_ways = (rcid_in_lem, rcid_is, code_in, code_is, code_zero, rver_in, rver_is, ruin_in, ruin_is)

-- ---- for callers: an identifier that number 5 passes

-- of an inserted record or of any
pub stands_identified : (new : Bool) (k : Kind) (b : List ℕ) (u : Unit {0}) → stands 1 (ident_format new k) b ≡ ok u → identified k b ≡ true
unfolding identified ident_format
stands_identified new k b u e = go new k (stands_fill 1 (ident_format new k) b u e)
  where
    go : (n : Bool) (j : Kind) → fill (head_of (ident_format n j)) (tuple_of (ident_format n j)) b ≡ true → fill (head_of (ident_format false j)) (tuple_of (ident_format false j)) b ≡ true
    go false j f = f
    go true Info f = (format_wider irid b f).0
    go true Point f = (format_wider prid b f).0
    go true Multi f = (format_wider mrid b f).0
    go true Feature f = (format_wider frid b f).0

-- as the first field of a record
pub five_identified : (m : Mode) (k : Kind) (f : Field) (fs : List Field) (u : Unit {0}) → number5 m k (f ∷ fs) ≡ ok u → identified k f.body ≡ true
unfolding number5
five_identified m k f fs u e =
    let r = bind_inv (stands 1 (ident_format (insert_only m) k) f.body) _ u e in
    stands_identified (insert_only m) k f.body r.0 r.1

-- at its place
pub ident_here : (r : List ℕ) (h : Shape) (m : Mode) (k : Kind) → number5 m k (fields_at r h 24) ≡ pass → (e : Option Place) → e ≡ place_at r h 24
    → (d : Place) → e ≡ Some d → identified k (between r d.start d.end) ≡ true
ident_here r h m k five e en d x =
    five_identified m k (record { tag = d.tag; body = between r d.start d.end }) (fields_at r h d.next) tt (rw (fields_more r h 24 e en d x) at five)
