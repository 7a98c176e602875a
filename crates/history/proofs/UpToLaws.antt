-- Laws of the records from one place up to another. Assumes nothing.
use mathlib.Core.Path.{◌≡◌, refl, sym, ap, ◌∙◌, subst}
use mathlib.Core.Bool.{Bool, true, false}
use mathlib.Core.List.{List, [], ◌∷◌, ◌++◌, append-nil, append_assoc}
use Prim.Native.Nat.{ℕ, ◌+◌, ◌-◌, ◌≤◌, ◌<◌}
use native.Mathlib.Omega.{arith}
use borrow.Author.Tests.{eqb-true, eqb-false}
use lib.Dec.{eqb}
use lib.ListN.{length, take, drop, length-append}
use lib.Seq.{take_at}
use Rattle.std.specs.Prelude.{Option, Some, None}
use Rattle.base.specs.Lists.{each}
use Rattle.base.specs.Walk.{Got}
use Rattle.skeleton.specs.File.{Field, records_from}
use Rattle.skeleton.proofs.FileLaws.{records_over}
use Rattle.keys.specs.Listed.{key_of, keys_from, listed}
use Rattle.keys.specs.Look.{look_at, looked, Sound}
use Rattle.keys.specs.declared.look.Look.{Look}
use Rattle.keys.proofs.ListLaws.{listed_here, listed_later, listed_none, not_first, not_later}
use Rattle.keys.proofs.SoundLaws.{sound_nothing}
use Rattle.keys.specs.Places.{Leads, here, over}
use Rattle.sorting.specs.Places.{Next}
use Rattle.keys.proofs.PlaceLaws.{follows, same_look, leads_sound, leads_on}
use Rattle.sorting.proofs.PlaceLaws.{leads_mid}
use Rattle.history.specs.Here.{record_here, records_up_to}
use Rattle.history.proofs.HereLaws.{here_keyed}

-- ---- lists

-- what stands before the same end is the same
same_front : {A : Type 0} (xs ys zs : List A) → xs ++ zs ≡ ys ++ zs → xs ≡ ys
same_front xs ys zs e =
    let l : length xs ≡ length ys = omega (arith, length-append xs zs, length-append ys zs, ap length e) in
    sym (take_at xs zs (length xs) refl) ∙ ap (take (length xs)) e ∙ take_at ys zs (length xs) (sym l)

-- a key in the middle is listed
pub listed_middle : (k : ℕ) (xs : List (List Field)) (y : List Field) (zs : List (List Field)) → key_of y ≡ k → listed k (each key_of (xs ++ (y ∷ zs))) ≡ true
unfolding each
listed_middle k [] y zs e = listed_here k (key_of y) (each key_of zs) e
listed_middle k (x ∷ xs) y zs e = go (eqb (key_of x) k) refl (listed_middle k xs y zs e)
  where
    go : (b : Bool) → eqb (key_of x) k ≡ b → listed k (each key_of (xs ++ (y ∷ zs))) ≡ true → listed k (key_of x ∷ each key_of (xs ++ (y ∷ zs))) ≡ true
    go true z h = listed_here k (key_of x) (each key_of (xs ++ (y ∷ zs))) (eqb-true (key_of x) k z)
    go false z h = listed_later k (key_of x) (each key_of (xs ++ (y ∷ zs))) (eqb-false (key_of x) k z) ∙ h

-- a key that is not listed is not so in the front
listed_front : (k : ℕ) (xs ys : List (List Field)) → listed k (each key_of (xs ++ ys)) ≡ false → listed k (each key_of xs) ≡ false
unfolding each
listed_front k [] ys e = listed_none k
listed_front k (x ∷ xs) ys e =
    listed_later k (key_of x) (each key_of xs) (not_first k (key_of x) (each key_of (xs ++ ys)) e)
    ∙ listed_front k xs ys (not_later k (key_of x) (each key_of (xs ++ ys)) e)

-- ---- places

-- the record at a place before the end
pub sound_first : (u : List ℕ) (q : ℕ) → Sound u q → q < length u → (records_from u q).items ≡ record_here u q ∷ drop 1 (records_from u q).items
sound_first u q s h = go (look_at u q) refl
  where
    go : (e : Option Look) → e ≡ look_at u q → (records_from u q).items ≡ record_here u q ∷ drop 1 (records_from u q).items
    go None x = absurd (sound_nothing u q s None x h refl)
    go (Some look) x = (here_keyed u q look.key (keys_from u (q + look.len)) (follows u q look.len look.key s (sym x)).found.keys).0

-- a record, its key, and those behind it
one_over : (u : List ℕ) (p len key : ℕ) → Sound u p → look_at u p ≡ looked len key
    → ((records_from u p).items ≡ record_here u p ∷ (records_from u (p + len)).items) × (key_of (record_here u p) ≡ key)
one_over u p len key s e =
    let f = (follows u p len key s e).found in
    let h = here_keyed u p key (keys_from u (p + len)) f.keys in
    (h.0 ∙ ap (λ (l : List (List Field)). record_here u p ∷ l) f.later, h.1)

-- a place that is behind a record is not before the record's end
pub leads_past : {u : List ℕ} {p q len key : ℕ} → Sound u p → look_at u p ≡ looked len key → Leads u p q → p < q → Leads u (p + len) q
leads_past s e here h = absurd (omega arith)
leads_past {u} {p} {q} {len} {key} s e (over {len = n} {key = k} d l) h =
    let z = same_look (look_at u p) len key n k e d in subst (λ (i : ℕ). Leads u (p + i) q) (sym z.0) l

-- ---- the records up to a place

pub upto_is : (u : List ℕ) (us q : ℕ) (pre : List (List Field)) → (records_from u us).items ≡ pre ++ (records_from u q).items → records_up_to u us q ≡ pre
unfolding records_up_to
upto_is u us q pre e =
    let n : length (records_from u us).items ≡ length pre + length (records_from u q).items = ap length e ∙ length-append pre (records_from u q).items in
    let left = length (records_from u us).items - length (records_from u q).items in
    ap (take left) e ∙ take_at pre (records_from u q).items left (omega arith)

pub upto_start : (u : List ℕ) (us : ℕ) → records_up_to u us us ≡ []
upto_start u us = upto_is u us us [] refl

pub upto_end : (u : List ℕ) (us q : ℕ) → length u ≤ q → records_up_to u us q ≡ (records_from u us).items
upto_end u us q h =
    upto_is u us q (records_from u us).items
    (sym (ap (λ (g : Got (List Field)). (records_from u us).items ++ g.items) (records_over u q h) ∙ append-nil (records_from u us).items))

module _ (u : List ℕ) (us : ℕ) (s : Sound u us) (q : ℕ) (l : Leads u us q) where
  pub upto_split : (records_from u us).items ≡ records_up_to u us q ++ (records_from u q).items
  upto_split =
      let m = leads_mid s l in
      m.split ∙ ap (λ (xs : List (List Field)). xs ++ (records_from u q).items) (sym (upto_is u us q m.mid m.split))

  -- up to a later place
  pub upto_more : (r : ℕ) (mid : List (List Field)) → (records_from u q).items ≡ mid ++ (records_from u r).items → records_up_to u us r ≡ records_up_to u us q ++ mid
  upto_more r mid e =
      upto_is u us r (records_up_to u us q ++ mid)
      (upto_split ∙ ap (λ (xs : List (List Field)). records_up_to u us q ++ xs) e ∙ sym (append_assoc (records_up_to u us q) mid (records_from u r).items))

  pub upto_one : (len key : ℕ) → look_at u q ≡ looked len key → records_up_to u us (q + len) ≡ records_up_to u us q ++ (record_here u q ∷ [])
  upto_one len key e = upto_more (q + len) (record_here u q ∷ []) (one_over u q len key (leads_sound l s) e).0

  pub upto_later : (r : ℕ) → Leads u us r → q ≤ r → (mid : List (List Field)) × (records_up_to u us r ≡ records_up_to u us q ++ mid)
  upto_later r m h = let g = leads_mid (leads_sound l s) (leads_on s l m h) in (g.mid, upto_more r g.mid g.split)

  -- ---- whether one of them names a key, by the first that does

  module _ (key r : ℕ) (n : Next u key us r) where
    -- it is not before q
    pub none_before : q ≤ r → listed key (each key_of (records_up_to u us q)) ≡ false
    none_before h =
        let m = leads_mid (leads_sound l s) (leads_on s l n.leads h) in
        let e : records_up_to u us q ++ m.mid ≡ n.skips.skipped
        = sym (upto_more r m.mid m.split) ∙ upto_is u us r n.skips.skipped n.skips.split in
        listed_front key (records_up_to u us q) m.mid (ap (λ (xs : List (List Field)). listed key (each key_of xs)) e ∙ n.skips.none)

    -- it is
    pub one_before : r < q → listed key (each key_of (records_up_to u us q)) ≡ true
    one_before h =
        let in_u : r < length u = let i = (leads_sound l s).inside in omega arith in
        let m = n.names in_u in
        let o = one_over u r m.len key n.sound m.look in
        let g = leads_mid (follows u r m.len key n.sound m.look).sound (leads_past n.sound m.look (leads_on s n.leads l (omega arith)) h) in
        let e : records_up_to u us q ≡ n.skips.skipped ++ (record_here u r ∷ g.mid)
        = upto_is u us q (n.skips.skipped ++ (record_here u r ∷ g.mid))
        (n.skips.split ∙ ap (λ (xs : List (List Field)). n.skips.skipped ++ xs) (o.0 ∙ ap (λ (xs : List (List Field)). record_here u r ∷ xs) g.split)
        ∙ sym (append_assoc n.skips.skipped (record_here u r ∷ g.mid) (records_from u q).items)) in
        ap (λ (xs : List (List Field)). listed key (each key_of xs)) e ∙ listed_middle key n.skips.skipped (record_here u r) g.mid o.1
