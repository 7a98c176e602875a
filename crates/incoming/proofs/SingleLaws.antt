-- Laws of one record of an update. Assumes nothing.
use mathlib.Core.Path.{◌≡◌, refl, sym, ◌∙◌}
use mathlib.Core.Bool.{Bool, true, false}
use mathlib.Core.List.{List, []}
use Prim.Native.Nat.{ℕ}
use lib.Dec.{eqb}
use lib.ListN.{get_or}
use Rattle.base.specs.Choice.{pick}
use Rattle.std.specs.Prelude.{Option, Some, None, Result, Ok, Err}
use Rattle.base.specs.Check.{Check, ok, no, bind, Passed, pass, passed}
use Rattle.base.specs.Verdict.{result_of, verdict_of}
use Rattle.base.specs.declared.Fault.{Fault}
use Rattle.base.proofs.CheckLaws.{bind_inv, ok_inj, value_is, fault_is}
use Rattle.skeleton.specs.File.{Field}
use Rattle.skeleton.specs.Place.{between, place_at, fields_at}
use Rattle.skeleton.specs.declared.directory.Shape.{Shape}
use Rattle.skeleton.specs.declared.place.Place.{Place}
use Rattle.skeleton.proofs.PlaceLaws.{fields_more, fields_done, place_runs, place_in_lem}
use Rattle.rules.specs.ByTag.{front, first_tag}
use Rattle.rules.specs.Kind.{coded, tag_of}
use Rattle.rules.specs.Grammar.{ruin_byte, as_stored, number4}
use Rattle.rules.specs.Content.{number5}
use Rattle.rules.specs.Trees.{number6}
use Rattle.rules.specs.Associations.{number7}
use Rattle.rules.specs.Record.{update_record}
use Rattle.rules.specs.declared.Kind.{Kind}
use Rattle.rules.specs.declared.Mode.TheVariants.{InUpdate}
use Rattle.contents.proofs.SevenLaws.{four_first}
use Rattle.keys.proofs.PassedLaws.{regroup}
use Rattle.dataset.specs.Numbers.{four_to_six_in}

-- ---- whether it is inserted

module _ (r : List ℕ) (h : Shape) (k : Kind) (e : Option Place) (en : e ≡ place_at r h 24) where
  pub inserted_none : e ≡ None → false ≡ eqb (ruin_byte k (front (fields_at r h 24))) 1
  unfolding front ruin_byte
  inserted_none x = rw (fields_done r h 24 e en x) (go (coded k))
    where
      go : (c : Bool) → false ≡ eqb (pick c (get_or [] 9 0) (get_or [] 7 0)) 1
      go true = refl
      go false = refl

  module _ (field : Place) (x : e ≡ Some field) where
    pub inserted_there : (b : Bool) → b ≡ as_stored InUpdate (ruin_byte k (between r field.start field.end)) → b ≡ eqb (ruin_byte k (front (fields_at r h 24))) 1
    unfolding front as_stored
    inserted_there b eb = rw (fields_more r h 24 e en field x) eb

pub ruleset inserted_ways = (inserted_none, inserted_there, place_runs, place_in_lem)

-- ---- number by number

-- 7 within it, where it is inserted
abbrev once_in : List Field → Kind → Check Kind
once_in fs k = pick (eqb (ruin_byte k (front fs)) 1) (bind (number7 fs) (λ _. ok k)) (ok k)

-- numbers 4 to 6, and then 7
parts : (fs : List Field) → update_record fs ≡ bind (four_to_six_in InUpdate 0 fs) (once_in fs)
unfolding update_record four_to_six_in
parts fs = regroup (number4 InUpdate 0 fs) (λ k. number5 InUpdate k fs) (λ k. number6 InUpdate k fs) (once_in fs)

module _ (fs : List Field) (t : Result Kind Fault) (et : t ≡ result_of (four_to_six_in InUpdate 0 fs)) where
  pub single_wrong : (z : Fault) → t ≡ Err z → Err z ≡ verdict_of (passed (update_record fs))
  unfolding verdict_of passed bind
  single_wrong z x = rw (parts fs) (rw (fault_is (four_to_six_in InUpdate 0 fs) z (sym x ∙ et)))

  module _ (k : Kind) (x : t ≡ Ok k) where
    right : four_to_six_in InUpdate 0 fs ≡ ok k
    right = value_is (four_to_six_in InUpdate 0 fs) k (sym x ∙ et)

    four_five : (number4 InUpdate 0 fs ≡ ok k) × (number5 InUpdate k fs ≡ pass)
    unfolding four_to_six_in
    four_five =
        let a = bind_inv (number4 InUpdate 0 fs) _ k right in
        let b = bind_inv (number5 InUpdate a.0 fs) _ k a.2 in
        let c = bind_inv (number6 InUpdate a.0 fs) _ k b.2 in
        let z : a.0 ≡ k = ok_inj a.0 k c.2 in
        let five : number5 InUpdate a.0 fs ≡ pass = b.1 in
        (rw z at a.1, rw z at five)

    pub single_five : number5 InUpdate k fs ≡ pass
    single_five = four_five.1

    pub single_tag : first_tag fs ≡ tag_of k
    single_tag = four_first InUpdate 0 fs k four_five.0

    then_once : update_record fs ≡ once_in fs k
    unfolding bind
    then_once = parts fs ∙ rw right

    module _ (b : Bool) (eb : b ≡ eqb (ruin_byte k (front fs)) 1) where
      pub single_kept : b ≡ false → Ok tt ≡ verdict_of (passed (update_record fs))
      unfolding verdict_of passed bind
      single_kept y = rw then_once (rw (← eb, y))

      pub single_once : b ≡ true → (v : Result (Unit {0}) Fault) → v ≡ verdict_of (number7 fs) → v ≡ verdict_of (passed (update_record fs))
      unfolding verdict_of passed bind
      single_once y v ev = rw then_once (rw (← eb, y) (go (number7 fs) ev))
        where
          go : (c : Passed) → v ≡ verdict_of c → v ≡ verdict_of (bind (bind c (λ _. ok k)) (λ _. pass))
          go (ok tt) z = z
          go (no y) z = z

pub ruleset single_ways = (single_wrong, single_five, single_tag, single_kept, single_once)
