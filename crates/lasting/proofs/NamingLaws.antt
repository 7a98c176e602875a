-- Keys and the update records that name them, by numbers. Assumes nothing.
use Prim.Native.Nat.{ℕ, ◌/◌, ◌<◌}
use mathlib.Core.Path.{◌≡◌, refl, sym, ap, subst, ◌∙◌}
use mathlib.Core.Option.{some, none}
use mathlib.Core.List.{List, [], ◌∷◌, ◌++◌}
use native.Mathlib.Omega.{arith}
use lib.Dec.{eqb}
use Rattle.base.specs.Keys.{same}
use Rattle.base.specs.Lists.{each, Each}
use Rattle.base.proofs.KeysLaws.{same_sound, same_refl}
use Rattle.base.proofs.OptionLaws.{never}
use Rattle.skeleton.specs.File.{Field}
use Rattle.rules.specs.Kind.{rcnm, rank}
use Rattle.rules.specs.Record.{Rec, key_of as key_in_rules}
use Rattle.sequence.specs.Keyed.{find, Once}
use Rattle.sequence.specs.Order.{is_insert, named}
use Rattle.sequence.proofs.Tests.{by_bool}
use Rattle.sequence.proofs.Lists.{find_hit, find_miss}
use Rattle.updates.specs.Acts.{place_of, act_of, chart}
use Rattle.keys.specs.Key.{rank_of}
use Rattle.keys.specs.Listed.{key_of, listed}
use Rattle.keys.specs.Numbered.{number_of, Ranged}
use Rattle.composing.specs.Acts.{Known}

-- ---- the place of a key's kind

place_rank : (n : ℕ) (l : List ℕ) → place_of (n ∷ l) ≡ rank_of n
unfolding place_of rank_of rcnm rank
place_rank n l = refl

number_rank : (n i : ℕ) → i < 4294967296 → number_of (n ∷ i ∷ []) / 4294967296 ≡ rank_of n
unfolding number_of
number_rank n i h = omega arith

pub place_is : (k : List ℕ) → Ranged k → place_of k ≡ number_of k / 4294967296
place_is k r =
    ap place_of r.parts ∙ place_rank r.rcnm (r.rcid ∷ []) ∙ sym (number_rank r.rcnm r.rcid r.small)
    ∙ ap (λ (l : List ℕ). number_of l / 4294967296) (sym r.parts)

-- ---- update records

-- a key whose number none of theirs is
pub named_listed : (k : List ℕ) → Ranged k → (us : List (List Field)) → Each Known us → named chart k us ≡ listed (number_of k) (each key_of us)
unfolding named listed each Each
named_listed k r [] n = refl
named_listed k r (fs ∷ us) n = rw (n.0.names k r, named_listed k r us n.1)

-- an insert by RUIN
pub insert_one : (n : ℕ) → is_insert (act_of n) ≡ eqb n 1
unfolding is_insert act_of
insert_one n = by_bool (eqb n 1) (λ h. rw h) (λ h. by_bool (eqb n 2) (λ g. rw (h, g)) (λ g. rw (h, g)))

-- ---- records whose keys stand once

pub once_there : (before : List Rec) (r : Rec) (later : List Rec) → Once chart (before ++ (r ∷ later)) → find chart (key_in_rules r) (before ++ (r ∷ later)) ≡ some r
unfolding Once
once_there [] r later o = find_hit chart (key_in_rules r) r later (same_refl (key_in_rules r))
once_there (b ∷ before) r later o =
    let there = once_there before r later o.1 in
    by_bool (same (key_in_rules b) (key_in_rules r))
    (λ h. never (sym there ∙ subst (λ (k : List ℕ). find chart k (before ++ (r ∷ later)) ≡ none) (same_sound (key_in_rules b) (key_in_rules r) h) o.0))
    (λ h. find_miss chart (key_in_rules r) b (before ++ (r ∷ later)) h ∙ there)
