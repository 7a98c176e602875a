-- Laws of an update record and the key that it names. Assumes nothing.
use mathlib.Core.Path.{◌≡◌, refl, sym, ap, ◌∙◌, subst}
use mathlib.Core.Bool.{false}
use mathlib.Core.List.{List, [], ◌∷◌}
use Prim.Native.Nat.{ℕ, ◌+◌, ◌≤◌, ◌<◌}
use borrow.Author.Tests.{ne_eqb}
use lib.ListN.{length}
use Rattle.std.specs.Prelude.{Option, Some}
use Rattle.base.specs.Lists.{each, Each}
use Rattle.base.specs.Keys.{same}
use Rattle.skeleton.specs.File.{Field, records_from}
use Rattle.sequence.specs.Order.{named}
use Rattle.updates.specs.Acts.{chart}
use Rattle.incoming.specs.Fitting.{Single, Rest}
use Rattle.keys.specs.Listed.{key_of, keys_from, listed, has_from}
use Rattle.keys.specs.Look.{look_at, Sound}
use Rattle.keys.specs.Numbered.{number_of, Ranged}
use Rattle.keys.specs.declared.look.Look.{Look}
use Rattle.keys.proofs.ListLaws.{listed_none, listed_later, not_first, not_later}
use Rattle.keys.proofs.SoundLaws.{sound_next}
use Rattle.keys.proofs.NumberLaws.{same_number}
use Rattle.history.specs.Here.{record_here, named_in}
use Rattle.history.proofs.HereLaws.{here_keyed, known_sent}
use Rattle.history.proofs.ActingLaws.{named_as}

-- ---- an update record that a quick look finds

-- each has a key
singles_keyed : (items : List (List Field)) → Each Single items → listed 0 (each key_of items) ≡ false
unfolding each Each
singles_keyed [] s = listed_none 0
singles_keyed (fs ∷ items) s =
    listed_later 0 (key_of fs) (each key_of items) (known_sent s.0.kind fs s.0.right).keyed.some ∙ singles_keyed items s.1

pub rest_sound : (u : List ℕ) (q : ℕ) → Rest u q → q ≤ length u → length u ≤ 16777216 → Sound u q
unfolding has_from keys_from
rest_sound u q s i l = record { small = l; inside = i; clean = s.ended; keyed = singles_keyed (records_from u q).items s.singles }

-- it is of so many bytes, and its key has this number
pub record Met (u : List ℕ) (q len key : ℕ) : Type 0 where
  pub split : (records_from u q).items ≡ record_here u q ∷ (records_from u (q + len)).items
  pub keys : keys_from u q ≡ key ∷ keys_from u (q + len)
  pub numbered : key_of (record_here u q) ≡ key
  pub ranged : Ranged (named_in (record_here u q))
  pub number : number_of (named_in (record_here u q)) ≡ key
  pub rest : Rest u (q + len)
  pub long : 0 < len
  pub inside : q + len ≤ length u

-- the key that it names
pub record Named (fs : List Field) : Type 0 where
  pub ranged : Ranged (named_in fs)
  pub number : key_of fs ≡ number_of (named_in fs)

pub single_named : (fs : List Field) → Single fs → Named fs
single_named fs s =
    let n = (known_sent s.kind fs s.right).keyed in
    let e = named_as s.kind fs s.right in
    record { ranged = subst Ranged (sym e) n.ranged; number = n.number ∙ ap number_of (sym e) }

pub met : (u : List ℕ) (q : ℕ) → Rest u q → Sound u q → (e : Option Look) → e ≡ look_at u q → (look : Look) → e ≡ Some look → Met u q look.len look.key
unfolding Each
met u q s o e en look x =
    let n = sound_next u q o e en look x in
    let h = here_keyed u q look.key (keys_from u (q + look.len)) n.found.keys in
    let y : (records_from u q).items ≡ record_here u q ∷ (records_from u (q + look.len)).items = h.0 ∙ ap (λ (l : List (List Field)). record_here u q ∷ l) n.found.later in
    let a : Each Single (record_here u q ∷ (records_from u (q + look.len)).items) = subst (Each Single) y s.singles in
    let m = single_named (record_here u q) a.0 in
    record {
      split = y;
      keys = n.found.keys;
      numbered = h.1;
      ranged = m.ranged;
      number = sym m.number ∙ h.1;
      rest = record { ended = n.sound.clean; singles = a.1 };
      long = n.found.long;
      inside = n.found.inside;
    }

-- a key that is not listed is not named
pub none_named : (items : List (List Field)) → Each Single items → (k : List ℕ) → Ranged k → listed (number_of k) (each key_of items) ≡ false → named chart k items ≡ false
unfolding named each Each
none_named [] s k r e = refl
none_named (fs ∷ items) s k r e =
    let n = single_named fs s.0 in
    let x : same (named_in fs) k ≡ false
    = same_number (named_in fs) k n.ranged r
    ∙ ne_eqb (number_of k) (number_of (named_in fs)) (λ z. not_first (number_of k) (key_of fs) (each key_of items) e (n.number ∙ sym z)) in
    rw x (none_named items s.1 k r (not_later (number_of k) (key_of fs) (each key_of items) e))
