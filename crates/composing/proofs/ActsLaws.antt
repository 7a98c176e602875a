-- Laws of the walks over an update's records that ask for one key. Assumes nothing.
use Prim.Native.Nat.{ℕ, ◌+◌, ◌-◌, ◌/◌, ◌^◌, ◌≤◌, ◌<◌}
use mathlib.Core.Path.{◌≡◌, refl, sym, ap, ◌∙◌}
use mathlib.Core.Bool.{Bool, true, false, not}
use mathlib.Core.List.{List, [], ◌∷◌}
use native.Mathlib.Omega.{arith}
use borrow.Author.Tests.{eq-eqb, ne_eqb}
use lib.ListN.{length, get_or}
use lib.Dec.{eqb}
use Rattle.std.specs.Prelude.{Option, Some, None, Result, Ok, Err}
use Rattle.base.specs.Choice.{pick, both, either}
use Rattle.base.specs.Walk.{Got}
use Rattle.base.proofs.ChoiceLaws.{either_false}
use Rattle.skeleton.specs.File.{Field, records_from}
use Rattle.skeleton.specs.Place.{between, place_at, fields_at}
use Rattle.skeleton.specs.Record.{record_at, stated_at}
use Rattle.skeleton.specs.Shape.{Bounded}
use Rattle.skeleton.specs.declared.directory.Shape.{Shape}
use Rattle.skeleton.specs.declared.leader.Head.{Head}
use Rattle.skeleton.specs.declared.leader.Broken.{Broken}
use Rattle.skeleton.specs.declared.place.Place.{Place}
use Rattle.skeleton.proofs.AgainLaws.{again, again_not, records_some}
use Rattle.skeleton.proofs.FileLaws.{records_over, records_more}
use Rattle.skeleton.proofs.PlaceLaws.{fields_more, fields_done, place_runs, place_in_lem}
use Rattle.skeleton.proofs.RecordLaws.{Right, right}
use Rattle.rules.specs.ByTag.{front}
use Rattle.rules.specs.Kind.{coded}
use Rattle.rules.specs.Grammar.{ruin_byte}
use Rattle.rules.specs.declared.Kind.{Kind}
use Rattle.keys.specs.Key.{key_at, kind_ranked}
use Rattle.keys.specs.Listed.{key_of, keys_from, listed, has_from}
use Rattle.keys.specs.Look.{Sound}
use Rattle.keys.proofs.FirstLaws.{first_key}
use Rattle.keys.proofs.ListLaws.{not_first, not_later}
use Rattle.keys.proofs.LookLaws.{keys_good, look_word, look_fits}
use Rattle.keys.proofs.SoundLaws.{sound_in, sound_small}
use Rattle.composing.specs.Acts.{ruin_with, fate_of, deleted_of, fate_from, deleted_from}

-- ---- one update record

-- RUIN
module _ (r : List ℕ) (h : Shape) (key : ℕ) (e : Option Place) (en : e ≡ place_at r h 24) where
  pub ruin_none : e ≡ None → 0 ≡ ruin_with key (fields_at r h 24)
  unfolding ruin_with front ruin_byte
  ruin_none x = rw (fields_done r h 24 e en x) (go (coded (kind_ranked (key / 4294967296))))
    where
      go : (c : Bool) → ◌≡◌ {A = ℕ} 0 (pick c (get_or [] 9 0) (get_or [] 7 0))
      go true = refl
      go false = refl

  pub ruin_there : (p : Place) → e ≡ Some p → (k : Kind) → k ≡ kind_ranked (key / 4294967296) → (n : ℕ) → n ≡ ruin_byte k (between r p.start p.end)
      → n ≡ ruin_with key (fields_at r h 24)
  unfolding ruin_with front
  ruin_there p x k ek n y = rw (fields_more r h 24 e en p x, ← ek) y

pub ruleset ruin_ways = (ruin_none, ruin_there, place_runs, place_in_lem)

-- by whether it names the key, where n is its RUIN
module _ (found key m : ℕ) where
  pub leaves_named : found ≡ key → (n : ℕ) → n ≡ m → (b : Bool) → not (eqb n 2) ≡ pick (eqb found key) (not (eqb m 2)) b
  leaves_named e n z b = rw (eq-eqb found key e, z)

  pub leaves_other : (found ≡ key → ⊥) → (b : Bool) → b ≡ pick (eqb found key) (not (eqb m 2)) b
  leaves_other e b = rw (ne_eqb found key e)

  pub deletes_before : (b : Bool) → b ≡ true → true ≡ either b (both (eqb found key) (eqb m 2))
  deletes_before b z = rw z

  module _ (b : Bool) (z : b ≡ false) where
    pub deletes_named : found ≡ key → (n : ℕ) → n ≡ m → eqb n 2 ≡ either b (both (eqb found key) (eqb m 2))
    deletes_named e n y = rw (z, eq-eqb found key e, y)

    pub deletes_other : (found ≡ key → ⊥) → eqb found key ≡ either b (both (eqb found key) (eqb m 2))
    deletes_other e = rw (z, ne_eqb found key e)

-- one of three
either_three : (a b c : Bool) → either (either a b) c ≡ either a (either b c)
either_three true b c = refl
either_three false b c = refl

-- ---- the loops: the record at p

module _ (f : List ℕ) (p : ℕ) (s : Sound f p) (l : p < length f) (h : Result Head Broken) (eh : h ≡ stated_at f p) where
  found : h ≡ record_at f p
  found = again f p (records_some f p l s.clean) h eh

  pub turn_not : (x : Broken) → h ≡ Err x → ⊥
  turn_not x y = again_not f p (records_some f p l s.clean) h eh x y

  module _ (head : Head) (x : h ≡ Ok head) where
    whole : Right f p head
    whole = right f p h found head x

    -- its fields
    abbrev fields : List Field
    fields = fields_at (between f p (p + head.len)) head.shape 24

    items : (records_from f p).items ≡ fields ∷ (records_from f (p + head.len)).items
    items = ap (λ (g : Got (List Field)). g.items) (records_more f p l h found head x)

    unlisted : listed 0 (key_of fields ∷ keys_from f (p + head.len)) ≡ false
    unfolding has_from
    unlisted = rw (keys_good f p l h found head x) at s.keyed

    key_is : key_at f (p + head.shape.base) ≡ key_of fields
    key_is = first_key f p head.len head.shape whole.walked (not_first 0 (key_of fields) (keys_from f (p + head.len)) unlisted)

    pub turn_bounded : Bounded head.shape
    turn_bounded = whole.bounded

    pub turn_in : p + head.len ≤ length f
    turn_in = whole.inside

    pub turn_runs : p ≤ p + head.len
    turn_runs = omega arith

    pub turn_word : p + head.len < 2 ^ 64
    turn_word = let i = turn_in in let k = s.small in omega arith

    pub turn_falls : length f - (p + head.len) < length f - p
    turn_falls = let g = whole.long in let i = turn_in in omega arith

    pub turn_key : p + head.shape.base < 2 ^ 63
    turn_key = look_word f p h eh head x s.inside s.small

    pub turn_place : p + head.shape.base < 2 ^ 64
    turn_place = look_fits f p h eh head x s.inside s.small

    pub turn_sound : Sound f (p + head.len)
    turn_sound =
        record {
          small = s.small;
          inside = turn_in;
          clean = rw (records_more f p l h found head x) at s.clean;
          keyed = unfold has_from in not_later 0 (key_of fields) (keys_from f (p + head.len)) unlisted;
        }

    module _ (k : ℕ) (ek : k ≡ key_at f (p + head.shape.base)) (key : ℕ) where
      pub fate_on : (before w t : Bool) → fate_from f p key before ≡ w → t ≡ pick (eqb k key) (not (eqb (ruin_with key fields) 2)) before → fate_from f (p + head.len) key t ≡ w
      unfolding fate_from fate_of
      fate_on before w t inv et =
          let y : fate_of key (fields ∷ (records_from f (p + head.len)).items) before ≡ w = rw items at inv in
          rw (et, ek, key_is) y

      pub deleted_on : (gone w t : Bool) → either gone (deleted_from f p key) ≡ w → t ≡ either gone (both (eqb k key) (eqb (ruin_with key fields) 2))
          → either t (deleted_from f (p + head.len) key) ≡ w
      unfolding deleted_from deleted_of
      deleted_on gone w t inv et =
          let y : either gone (deleted_of key (fields ∷ (records_from f (p + head.len)).items)) ≡ w = rw items at inv in
          rw (et, ek, key_is) (either_three gone (both (eqb (key_of fields) key) (eqb (ruin_with key fields) 2)) (deleted_of key (records_from f (p + head.len)).items) ∙ y)

-- where the update ends
module _ (f : List ℕ) (p key : ℕ) (h : length f ≤ p) (w : Bool) where
  pub fate_over : (before : Bool) → fate_from f p key before ≡ w → before ≡ w
  unfolding fate_from fate_of
  fate_over before inv = rw (records_over f p h) at inv

  pub deleted_over : (gone : Bool) → either gone (deleted_from f p key) ≡ w → gone ≡ w
  unfolding deleted_from deleted_of
  deleted_over gone inv =
      let y : either gone (deleted_of key []) ≡ w = rw (records_over f p h) at inv in
      sym (either_false gone) ∙ y

pub ruleset acts_turn =
    (turn_not, turn_bounded, turn_in, turn_runs, turn_word, turn_key, turn_place, sound_in, sound_small, arith)

pub ruleset names_ways = (leaves_named, leaves_other, deletes_before, deletes_named, deletes_other)
