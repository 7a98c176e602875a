-- Laws of the update records that name a key, one after the other. Assumes nothing.
use Prim.Native.Nat.{ℕ, ◌+◌, ◌-◌, ◌<◌}
use mathlib.Core.Path.{◌≡◌, refl, sym, ap, ◌∙◌}
use mathlib.Core.Bool.{Bool, true, false, not}
use mathlib.Core.List.{List, [], ◌∷◌, ◌++◌}
use native.Mathlib.Omega.{arith}
use borrow.Author.Tests.{eq-eqb, ne_eqb}
use lib.ListN.{length}
use lib.Dec.{eqb}
use Rattle.std.specs.Prelude.{Result, Ok}
use Rattle.base.specs.Choice.{pick, both, either}
use Rattle.base.specs.Lists.{each}
use Rattle.skeleton.specs.File.{Field, records_from}
use Rattle.skeleton.specs.Place.{between, fields_at}
use Rattle.skeleton.specs.Record.{stated_at}
use Rattle.skeleton.specs.declared.leader.Head.{Head}
use Rattle.skeleton.specs.declared.leader.Broken.{Broken}
use Rattle.keys.specs.Key.{key_at}
use Rattle.keys.specs.Listed.{key_of, listed}
use Rattle.keys.specs.Look.{look_at, looked, Sound}
use Rattle.keys.proofs.ListLaws.{not_first, not_later}
use Rattle.keys.specs.Places.{Leads, here, over}
use Rattle.sorting.specs.Places.{Skips, Next, Late, at_start, at_one}
use Rattle.keys.proofs.PlaceLaws.{leads_sound, leads_then}
use Rattle.sorting.proofs.PlaceLaws.{front_of, leads_mid, next_leads, next_up}
use Rattle.composing.specs.Acts.{ruin_with, fate_of, deleted_of, fate_from, deleted_from}
use Rattle.composing.proofs.ActsLaws.{turn_sound, turn_falls, fate_on, deleted_on}

-- records that name other keys delete nothing
deleted_past : (key : ℕ) (xs ys : List (List Field)) → listed key (each key_of xs) ≡ false → deleted_of key (xs ++ ys) ≡ deleted_of key ys
unfolding deleted_of each
deleted_past key [] ys n = refl
deleted_past key (fs ∷ xs) ys n =
    rw (ne_eqb (key_of fs) key (not_first key (key_of fs) (each key_of xs) n)) (deleted_past key xs ys (not_later key (key_of fs) (each key_of xs) n))

deleted_skip : (u : List ℕ) (key p r : ℕ) → Skips u key p r → deleted_from u p key ≡ deleted_from u r key
unfolding deleted_from
deleted_skip u key p r s = ap (deleted_of key) s.split ∙ deleted_past key s.skipped (records_from u r).items s.none

-- nor do they change what stands
fate_past : (key : ℕ) (xs ys : List (List Field)) (b : Bool) → listed key (each key_of xs) ≡ false → fate_of key (xs ++ ys) b ≡ fate_of key ys b
unfolding fate_of each
fate_past key [] ys b n = refl
fate_past key (fs ∷ xs) ys b n =
    ap (λ (t : Bool). fate_of key (xs ++ ys) (pick t (not (eqb (ruin_with key fs) 2)) b)) (ne_eqb (key_of fs) key (not_first key (key_of fs) (each key_of xs) n))
    ∙ fate_past key xs ys b (not_later key (key_of fs) (each key_of xs) n)

fate_skip : (u : List ℕ) (key p r : ℕ) (b : Bool) → Skips u key p r → fate_from u p key b ≡ fate_from u r key b
unfolding fate_from
fate_skip u key p r b s = ap (λ (l : List (List Field)). fate_of key l b) s.split ∙ fate_past key s.skipped (records_from u r).items b s.none

-- the record at p is one of those from us on, and one that stood there ends as `answer` says
pub record Going (u : List ℕ) (us key : ℕ) (before : Bool) (p : ℕ) (stands : Bool) : Type 0 where
  pub sound : Sound u p
  pub leads : Leads u us p
  pub answer : fate_from u p key stands ≡ fate_from u us key before

-- what stood before a record that names the key does not matter
fate_set : (key : ℕ) (xs : List (List Field)) (y : List Field) (ys : List (List Field)) (b c : Bool) → key_of y ≡ key → fate_of key (xs ++ (y ∷ ys)) b ≡ fate_of key (y ∷ ys) c
unfolding fate_of
fate_set key [] y ys b c e =
    let own : (t : Bool) → fate_of key (y ∷ ys) t ≡ fate_of key ys (not (eqb (ruin_with key y) 2))
    = λ t. ap (λ (h : Bool). fate_of key ys (pick h (not (eqb (ruin_with key y) 2)) t)) (eq-eqb (key_of y) key e) in
    own b ∙ sym (own c)
fate_set key (x ∷ xs) y ys b c e = fate_set key xs y ys (pick (eqb (key_of x) key) (not (eqb (ruin_with key x) 2)) b) c e

fate_late : (u : List ℕ) (us key p : ℕ) (b : Bool) → Sound u us → Late u us key p → fate_from u us key b ≡ fate_from u p key b
unfolding fate_from
fate_late u us key p b s at_start = refl
fate_late u us key p b s (at_one n) =
    let m = leads_mid s n.leads in
    let f = front_of u p n.len key (leads_sound n.leads s) n.look in
    ap (λ (l : List (List Field)). fate_of key l b) (m.split ∙ ap (λ (l : List (List Field)). m.mid ++ l) f.split)
    ∙ fate_set key m.mid f.fields (records_from u (p + n.len)).items b b f.key_of_lem ∙ ap (λ (l : List (List Field)). fate_of key l b) (sym f.split)

pub late_leads : {u : List ℕ} {us key p : ℕ} → Late u us key p → Leads u us p
late_leads at_start = here
late_leads (at_one n) = n.leads

pub going_start : (u : List ℕ) (us key from r : ℕ) (before : Bool) → Sound u us → Late u us key from → Next u key from r → Going u us key before r before
going_start u us key from r before s t n = record {
  sound = n.sound;
  leads = next_leads (late_leads t) n;
  answer = sym (fate_late u us key from before s t ∙ fate_skip u key from r before n.skips);
}

module _ (u : List ℕ) (us key : ℕ) (before : Bool) (p : ℕ) (stands : Bool) (a : Going u us key before p stands) (l : p < length u) (h : Result Head Broken) (eh : h ≡ stated_at u p)
    (head : Head) (x : h ≡ Ok head) where
  pub going_leads : Leads u us (p + head.len)
  unfolding look_at
  going_leads =
      let e : look_at u p ≡ looked head.len (key_at u (p + head.shape.base)) = rw (← eh, x) refl in
      leads_then a.leads (over e here)

  pub going_falls : (r : ℕ) → Next u key (p + head.len) r → length u - r < length u - p
  going_falls r n =
      let f = turn_falls u p a.sound l h eh head x in
      let g = next_up (turn_sound u p a.sound l h eh head x) n in
      omega arith

  pub going_more : (k : ℕ) → k ≡ key_at u (p + head.shape.base) → (t : Bool)
      → t ≡ pick (eqb k key) (not (eqb (ruin_with key (fields_at (between u p (p + head.len)) head.shape 24)) 2)) stands
      → (r : ℕ) → Next u key (p + head.len) r → Going u us key before r t
  going_more k ek t et r n = record {
    sound = n.sound;
    leads = next_leads going_leads n;
    answer = sym (fate_skip u key (p + head.len) r t n.skips)
        ∙ fate_on u p a.sound l h eh head x k ek key stands (fate_from u us key before) t a.answer et;
  }

-- `gone` is what was found before the record at p, which is one of those from us on
pub record Seeking (u : List ℕ) (us from key p : ℕ) (gone : Bool) : Type 0 where
  pub sound : Sound u p
  pub leads : Leads u us p
  pub answer : either gone (deleted_from u p key) ≡ deleted_from u from key

pub seeking_start : (u : List ℕ) (us from key r : ℕ) → Leads u us from → Next u key from r → Seeking u us from key r false
seeking_start u us from key r l n = record { sound = n.sound; leads = next_leads l n; answer = sym (deleted_skip u key from r n.skips) }

module _ (u : List ℕ) (us from key p : ℕ) (gone : Bool) (a : Seeking u us from key p gone) (l : p < length u) (h : Result Head Broken) (eh : h ≡ stated_at u p)
    (head : Head) (x : h ≡ Ok head) where
  pub seeking_leads : Leads u us (p + head.len)
  unfolding look_at
  seeking_leads =
      let e : look_at u p ≡ looked head.len (key_at u (p + head.shape.base)) = rw (← eh, x) refl in
      leads_then a.leads (over e here)

  pub seeking_falls : (r : ℕ) → Next u key (p + head.len) r → length u - r < length u - p
  seeking_falls r n =
      let f = turn_falls u p a.sound l h eh head x in
      let g = next_up (turn_sound u p a.sound l h eh head x) n in
      omega arith

  module _ (k : ℕ) (ek : k ≡ key_at u (p + head.shape.base)) (t : Bool)
      (et : t ≡ either gone (both (eqb k key) (eqb (ruin_with key (fields_at (between u p (p + head.len)) head.shape 24)) 2))) where
    so_far : either t (deleted_from u (p + head.len) key) ≡ deleted_from u from key
    so_far = deleted_on u p a.sound l h eh head x k ek key gone (deleted_from u from key) t a.answer et

    pub seeking_found : t ≡ true → true ≡ deleted_from u from key
    seeking_found y = rw y at so_far

    pub seeking_more : (r : ℕ) → Next u key (p + head.len) r → Seeking u us from key r t
    seeking_more r n = record {
      sound = n.sound;
      leads = next_leads seeking_leads n;
      answer = ap (either t) (sym (deleted_skip u key (p + head.len) r n.skips)) ∙ so_far;
    }
