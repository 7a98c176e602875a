-- Laws of an index of records. Assumes nothing.
use mathlib.Core.Path.{◌≡◌, refl, sym, ap, ◌∙◌, subst}
use mathlib.Core.Bool.{Bool, true, false}
use mathlib.Core.List.{List, ◌++◌, append-nil}
use Prim.Native.Nat.{ℕ, ◌+◌, ◌-◌, ◌*◌, ◌/◌, ◌≤◌, ◌<◌}
use native.Mathlib.Omega.{arith}
use borrow.Author.Tests.{ltb-true, ltb-false}
use lib.ListN.{length, take, drop, length-take, length-drop}
use lib.Seq.{drop_at, drop-length, drop-drop}
use Rattle.std.specs.Prelude.{Option, Some, None}
use Rattle.memory.specs.Put.{part}
use Rattle.memory.specs.Digits.{from_little_endian}
use lib.Dec.{ltb}
use Rattle.keys.specs.Look.{looked, look_at, Sound}
use Rattle.keys.specs.declared.look.Look.{Look}
use Rattle.keys.proofs.SoundLaws.{Next as Follows, sound_over, sound_bounds}
use Rattle.sorting.specs.Numbers.{number_at, Stored, Has, Mixed, Ascends, Parted}
use Rattle.keys.specs.Places.{Leads, here, over, Names}
use Rattle.sorting.specs.Places.{Skips, Next, Late, at_one, weight_of, Entry, Filled, Sorted, Indexed}
use Rattle.sorting.proofs.NumberLaws.{weak}
use Rattle.keys.proofs.PlaceLaws.{follows, same_look, leads_sound, leads_up, leads_then, leads_on, leads_end}
use Rattle.sorting.proofs.PlaceLaws.{skips_none, skips_over, skips_to}

leads_one : {u : List ℕ} {p q : ℕ} (len key : ℕ) → Leads u p q → look_at u q ≡ looked len key → Leads u p (q + len)
leads_one len key l e = leads_then l (over e here)

names_inside : {u : List ℕ} {us key p : ℕ} → Sound u us → Names u us key p → p < length u
names_inside {u} {us} {key} {p} s n =
    let f = (follows u p n.len key (leads_sound n.leads s) n.look).found in let i = f.inside in let l = f.long in omega arith

-- ---- `count`

pub count_more : (u : List ℕ) (q : ℕ) → Sound u q → (e : Option Look) → e ≡ look_at u q → (look : Look) → e ≡ Some look → (n : ℕ) → n ≤ q → n + 1 ≤ q + look.len
count_more u q s e x look y n h = let l = (follows u q look.len look.key s (sym x ∙ y)).found.long in omega arith

pub count_word : (u : List ℕ) (q : ℕ) → Sound u q → (n : ℕ) → n ≤ q → n ≤ 16777216
count_word u q s n h = let i = s.inside in let l = s.small in omega arith

pub ruleset count_turn = (count_more, count_word, sound_bounds, arith)

-- ---- `next_plain`

-- the records from p to q do not name the key
pub record Skipping (u : List ℕ) (key p q : ℕ) : Type 0 where
  pub sound : Sound u q
  pub leads : Leads u p q
  pub skips : (r : ℕ) → Skips u key q r → Skips u key p r

pub skipping_start : (u : List ℕ) (key p : ℕ) → Sound u p → Skipping u key p p
skipping_start u key p s = record { sound = s; leads = here; skips = λ r t. t }

module _ (u : List ℕ) (key p q : ℕ) (a : Skipping u key p q) where
  pub skipping_sound : Sound u q
  skipping_sound = a.sound

  module _ (e : Option Look) (en : e ≡ look_at u q) where
    pub skipping_over : e ≡ None → Next u key p q
    skipping_over x = record {
      leads = a.leads;
      sound = a.sound;
      skips = a.skips q (skips_none u key q);
      names = λ l. absurd (let h = sound_over u q a.sound e en x in omega arith);
    }

    module _ (look : Look) (x : e ≡ Some look) where
      pub skipping_more : (look.key ≡ key → ⊥) → Skipping u key p (q + look.len)
      skipping_more n = record {
        sound = (follows u q look.len look.key a.sound (sym en ∙ x)).sound;
        leads = leads_one look.len look.key a.leads (sym en ∙ x);
        skips = λ r t. a.skips r (skips_over u key q look.len look.key r a.sound (sym en ∙ x) n t);
      }

      pub skipping_here : look.key ≡ key → Next u key p q
      skipping_here z = record {
        leads = a.leads;
        sound = a.sound;
        skips = a.skips q (skips_none u key q);
        names = λ l. record { leads = a.leads; len = look.len; look = sym en ∙ x ∙ ap (looked look.len) z };
      }

pub ruleset skipping_turn = (skipping_start, skipping_sound, skipping_over, skipping_more, skipping_here, sound_bounds, arith)

-- ---- `fill`

-- the n numbers in s are those of the records from us up to q, and 0
pub record Filling (u : List ℕ) (us q n : ℕ) (s : List ℕ) : Type 0 where
  pub sound : Sound u q
  pub leads : Leads u us q
  pub room : 8 * n ≤ length s
  pub counted : n ≤ q + 1
  pub each_one : (x : ℕ) → Has n s x → 0 < x → Entry u us x
  pub all : (key p : ℕ) → Names u us key p → p < q → Has n s (weight_of key p)

pub filling_start : (u : List ℕ) (us : ℕ) (s t : List ℕ) → Sound u us → 8 ≤ length s → Stored s 0 0 t → Filling u us us 1 t
filling_start u us s t o l b = record {
  sound = o;
  leads = here;
  room = (let k = b.long in omega arith);
  counted = omega arith;
  each_one = λ x h g.
      let i = h.inside in
      let z : h.place ≡ 0 = omega arith in
      let e = ap (number_at t) z in
      let k = b.here in
      let m = h.is in
      absurd (omega arith);
  all = λ key p n h. absurd (let i = leads_up n.leads o in omega arith);
}

module _ (u : List ℕ) (us q n : ℕ) (s : List ℕ) (o : Sound u us) (a : Filling u us q n s) where
  pub filling_sound : Sound u q
  filling_sound = a.sound

  pub filling_place : q ≤ 16777216
  filling_place = let i = a.sound.inside in let l = a.sound.small in omega arith

  pub filling_count : n ≤ 16777217
  filling_count = let i = filling_place in let c = a.counted in omega arith

  pub filling_all : (e : Option Look) → e ≡ look_at u q → e ≡ None → 8 * n ≡ length s → (m : ℕ) × Filled u us m s
  filling_all e en x full = (
    n,
    record {
      long = sym full;
      each_one = a.each_one;
      all = λ key p m. a.all key p m (let h = sound_over u q a.sound e en x in let i = names_inside o m in omega arith);
    },
  )

  module _ (e : Option Look) (en : e ≡ look_at u q) (look : Look) (x : e ≡ Some look) where
    step : Follows u q look.len look.key
    step = follows u q look.len look.key a.sound (sym en ∙ x)

    module _ (w : ℕ) (is-w : w ≡ weight_of look.key q) (t : List ℕ) (b : Stored s n w t) where
      kept : (y : ℕ) → Has n s y → Has (n + 1) t y
      kept y h =
          let i = h.inside in
          record { place = h.place; inside = omega arith; is = b.others h.place (λ z. omega arith) ∙ h.is }

      one : (y : ℕ) → Has (n + 1) t y → 0 < y → Entry u us y
      one y h some = go (ltb h.place n) refl
        where
          go : (c : Bool) → ltb h.place n ≡ c → Entry u us y
          go true l =
              let i = ltb-true h.place n l in
              a.each_one y (record { place = h.place; inside = i; is = sym (b.others h.place (λ z. omega arith)) ∙ h.is }) some
          go false l =
              let i = ltb-false h.place n l in
              let j = h.inside in
              let z : h.place ≡ n = omega arith in
              record {
                key = look.key;
                place = q;
                names = record { leads = a.leads; len = look.len; look = sym en ∙ x };
                is = sym h.is ∙ ap (number_at t) z ∙ b.here ∙ is-w;
              }

      -- a record that is not before q and not behind the one there is that one
      only : (k p : ℕ) → look_at u p ≡ look_at u p → Leads u q p → p < q + look.len → (m : ℕ) → look_at u p ≡ looked m k → Has (n + 1) t (weight_of k p)
      only k p r here l m g =
          let z = same_look e look.len look.key m k x (en ∙ g) in
          record { place = n; inside = omega arith; is = b.here ∙ is-w ∙ ap (λ (i : ℕ). weight_of i q) z.1 }
      only k p r (over {len = m2} {key = k2} d y) l m g =
          let z = same_look e look.len look.key m2 k2 x (en ∙ d) in
          let i = leads_up y (follows u q m2 k2 a.sound d).sound in
          absurd (omega (arith, z.0))

      any : (k p : ℕ) → Names u us k p → p < q + look.len → Has (n + 1) t (weight_of k p)
      any k p m l = go (ltb p q) refl
        where
          go : (c : Bool) → ltb p q ≡ c → Has (n + 1) t (weight_of k p)
          go true i = kept (weight_of k p) (a.all k p m (ltb-true p q i))
          go false i = only k p refl (leads_on o a.leads m.leads (ltb-false p q i)) l m.len m.look

      pub filling_more : 8 * n + 8 ≤ length s → Filling u us (q + look.len) (n + 1) t
      filling_more h = record {
        sound = step.sound;
        leads = leads_one look.len look.key a.leads (sym en ∙ x);
        room = (let l = b.long in omega arith);
        counted = (let l = step.found.long in let c = a.counted in omega arith);
        each_one = one;
        all = any;
      }

pub ruleset filling_turn = (filling_start, filling_sound, filling_place, filling_count, filling_more, sound_bounds, arith)

-- ---- `build`

pub filled_count : (u : List ℕ) (us m : ℕ) (s : List ℕ) → Filled u us m s → length s / 8 ≡ m
filled_count u us m s f = let l = f.long in omega arith

pub filled_mixed : (u : List ℕ) (us n : ℕ) (s t : List ℕ) → Filled u us n s → Mixed n s t → Filled u us n t
filled_mixed u us n s t f m = record {
  long = m.long ∙ f.long;
  each_one = λ x h. f.each_one x (m.back x h);
  all = λ key p a. m.forth (weight_of key p) (f.all key p a);
}

filled_sorted : (u : List ℕ) (us n : ℕ) (s : List ℕ) → Filled u us n s → Ascends n s → Sorted u us n s
filled_sorted u us n s f a = record { long = f.long; each_one = f.each_one; all = λ key p m h. f.all key p m; up = a }

pub built : (u : List ℕ) (us : ℕ) (s : List ℕ) → (m : ℕ) × Filled u us m s → Ascends (length s / 8) s → (n : ℕ) × Sorted u us n s
built u us s (m, f) a = (m, filled_sorted u us m s f (subst (λ (n : ℕ). Ascends n s) (filled_count u us m s f) a))

pub built_mixed : (u : List ℕ) (us : ℕ) (s t : List ℕ) → (m : ℕ) × Filled u us m s → Mixed (length s / 8) s t → Ascends (length s / 8) t → (n : ℕ) × Sorted u us n t
built_mixed u us s t (m, f) x a =
    let e = filled_count u us m s f in
    (m, filled_sorted u us m t (filled_mixed u us m s t f (subst (λ (n : ℕ). Mixed n s t) e x)) (subst (λ (n : ℕ). Ascends n t) e a))

-- ---- `lay`

pub indexed_none : (u : List ℕ) (us : ℕ) (s : List ℕ) → Indexed u us (drop (length s) s)
unfolding Indexed
indexed_none u us s = λ h. absurd (omega (arith, length-drop (length s) s))

-- what was lent up to the end is what stands there
lent_back : (l m : List ℕ) (a : ℕ) → a ≤ length l → drop a (take a l ++ (m ++ drop (length l - a) (drop a l))) ≡ m
lent_back l m a h =
    drop_at (take a l) (m ++ drop (length l - a) (drop a l)) a (take_length a l h)
    ∙ ap (λ (r : List ℕ). m ++ r) (ap (λ (n : ℕ). drop n (drop a l)) (sym (length-drop a l)) ∙ drop-length (drop a l)) ∙ append-nil m
  where
    take_length : (n : ℕ) (x : List ℕ) → n ≤ length x → length (take n x) ≡ n
    take_length n x g = simp length-take (omega arith)

pub indexed_by : (u : List ℕ) (us : ℕ) (s l : List ℕ) (a : ℕ) → (n : ℕ) × Sorted u us n s → a ≤ length l → Indexed u us (drop a (take a l ++ (s ++ drop (length l - a) (drop a l))))
unfolding Indexed
indexed_by u us s l a (n, x) g = λ h. (n, subst (Sorted u us n) (sym (lent_back l s a g)) x)

-- ---- `next`

module _ (u : List ℕ) (us : ℕ) (s : List ℕ) (o : Sound u us) (x : Indexed u us s) (n : ℕ) (en : n ≡ length s / 8) where
  pub index_is : (n ≡ 0 → ⊥) → Sorted u us n s
  unfolding Indexed
  index_is h =
      let i = x (omega arith) in
      let l = i.1.long in
      let e : i.0 ≡ n = omega arith in
      subst (λ (m : ℕ). Sorted u us m s) e i.1

module _ (u : List ℕ) (us n : ℕ) (s : List ℕ) (o : Sound u us) (x : Sorted u us n s) (p : ℕ) (l : Leads u us p) (key low i : ℕ)
    (is-low : low ≡ weight_of key 0) (whole : number_at s 0 ≤ low + p) (b : Parted n s (low + p) i) where
  here_sound : Sound u p
  here_sound = leads_sound l o

  -- a later record that names the key stands in the index from i on
  stands : (q : ℕ) → Names u p key q → (h : Has n s (weight_of key q)) × (i ≤ h.place) × (q < 16777216)
  stands q m =
      let up = leads_up m.leads here_sound in
      let h = x.all key q (record { leads = leads_then l m.leads; len = m.len; look = m.look }) (omega arith) in
      let in_u = names_inside here_sound m in
      let small = o.small in
      (h, not_below h up, omega arith)
    where
      not_below : (h : Has n s (weight_of key q)) → p ≤ q → i ≤ h.place
      not_below h up = go (ltb h.place i) refl
        where
          go : (c : Bool) → ltb h.place i ≡ c → i ≤ h.place
          go true e = absurd (let y = b.below h.place (ltb-true h.place i e) in let z = h.is in omega arith)
          go false e = ltb-false h.place i e

  ended : ((q : ℕ) → Names u p key q → ⊥) → Next u key p (length u)
  ended f = record {
    leads = leads_end u p here_sound;
    sound = leads_sound (leads_end u p here_sound) here_sound;
    skips = skips_to key here_sound (leads_end u p here_sound) (λ q m h. f q m);
    names = λ h. absurd (omega arith);
  }

  pub next_none : n ≤ i → Next u key p (length u)
  next_none h = ended (λ q m. let g = stands q m in let y = g.0.inside in let z = g.1 in omega arith)

  module _ (h : i < n) (w : ℕ) (is-w : w ≡ number_at s i) where
    at_most : (q : ℕ) → Names u p key q → (w ≤ weight_of key q) × (q < 16777216)
    at_most q m =
        let g = stands q m in
        let y = weak n s x.up i g.0.place g.1 g.0.inside in
        let z = g.0.is in
        (omega arith, g.2)

    not_less : low + p ≤ w
    not_less = let y = b.from_on i (omega arith) h in omega arith

    pub next_far : low + 16777216 ≤ w → Next u key p (length u)
    next_far f = ended (λ q m. let g = at_most q m in omega arith)

    module _ (some : 0 < key) (near : w < low + 16777216) where
      entry : Entry u us w
      entry = x.each_one w (record { place = i; inside = h; is = sym is-w }) (let g = not_less in omega arith)

      in_u : entry.place < length u
      in_u = names_inside o entry.names

      key_is : entry.key ≡ key
      key_is = let y = entry.is in let z = in_u in let v = o.small in let g = not_less in omega arith

      place_is : entry.place ≡ w - low
      place_is = let y = entry.is in let z = key_is in omega arith

      from_p : Leads u p entry.place
      from_p = leads_on o l entry.names.leads (let y = place_is in let g = not_less in omega arith)

      found : Next u key p entry.place
      found = record {
        leads = from_p;
        sound = leads_sound entry.names.leads o;
        skips = skips_to key here_sound from_p (λ q m f. let g = at_most q m in let y = entry.is in let z = key_is in omega arith);
        names = λ _. record { leads = from_p; len = entry.names.len; look = entry.names.look ∙ ap (looked entry.names.len) key_is };
      }

      pub next_found : Next u key p (w - low)
      next_found = subst (Next u key p) place_is found

pub index_place : (u : List ℕ) (us p : ℕ) → Sound u us → Leads u us p → (Sound u p) × (p ≤ 16777216)
index_place u us p o l = let s = leads_sound l o in let i = s.inside in let m = s.small in (s, omega arith)

-- ---- `late`

pub late_found : (u : List ℕ) (us n : ℕ) (s : List ℕ) → Sound u us → Sorted u us n s → (key low i : ℕ) → low ≡ weight_of key 0 → 0 < key → Parted n s (low + 16777216) i → 0 < i
    → (w : ℕ) → w ≡ number_at s (i - 1) → low ≤ w → Late u us key (w - low)
late_found u us n s o x key low i is-low some b h w is-w l =
    let inside = b.inside in
    let below = b.below (i - 1) (omega arith) in
    let entry = x.each_one w (record { place = i - 1; inside = omega arith; is = sym is-w }) (omega arith) in
    let in_u = names_inside o entry.names in
    let small = o.small in
    let is = entry.is in
    let k : entry.key ≡ key = omega arith in
    let p : entry.place ≡ w - low = omega arith in
    at_one (record {
      leads = subst (Leads u us) p entry.names.leads;
      len = entry.names.len;
      look = ap (look_at u) (sym p) ∙ entry.names.look ∙ ap (looked entry.names.len) k;
    })

-- ---- what is left of an index

number_behind : (s : List ℕ) (k j : ℕ) → number_at (drop (8 * k) s) j ≡ number_at s (k + j)
unfolding number_at part
number_behind s k j =
    let e : 8 * k + 8 * j ≡ 8 * (k + j) = omega arith in
    ap (λ (l : List ℕ). from_little_endian (take 8 l)) (drop-drop (8 * j) (8 * k) s ∙ ap (λ (i : ℕ). drop i s) e)

module _ (u : List ℕ) (us n : ℕ) (s : List ℕ) (x : Sorted u us n s) (k : ℕ) (h : k < n) where
  has_behind : (y : ℕ) → Has (n - k) (drop (8 * k) s) y → Has n s y
  has_behind y a = let i = a.inside in record { place = k + a.place; inside = omega arith; is = sym (number_behind s k a.place) ∙ a.is }

  -- a number that is not below the first that is left is left itself
  left_behind : (y : ℕ) → number_at (drop (8 * k) s) 0 ≤ y → Has n s y → Has (n - k) (drop (8 * k) s) y
  unfolding Ascends
  left_behind y l a = go (ltb a.place k) refl
    where
      go : (c : Bool) → ltb a.place k ≡ c → Has (n - k) (drop (8 * k) s) y
      go true e =
          let up = x.up a.place k (ltb-true a.place k e) h in
          let z = number_behind s k 0 in
          let w : k + 0 ≡ k = omega arith in
          let v = ap (number_at s) w in
          let is = a.is in
          record { place = 0; inside = omega arith; is = omega arith }
      go false e =
          let i = ltb-false a.place k e in
          let j = a.inside in
          let w : k + (a.place - k) ≡ a.place = omega arith in
          record { place = a.place - k; inside = omega arith; is = number_behind s k (a.place - k) ∙ ap (number_at s) w ∙ a.is }

  sorted_behind : Sorted u us (n - k) (drop (8 * k) s)
  unfolding Ascends
  sorted_behind = record {
    long = length-drop (8 * k) s ∙ (let l = x.long in omega arith);
    each_one = λ y a. x.each_one y (has_behind y a);
    all = λ key p m l. (let z = number_behind s k 0 in let w : k + 0 ≡ k = omega arith in let v = ap (number_at s) w in
        left_behind (weight_of key p) l (x.all key p m (first_least l)));
    up = λ i j a b. (let y = x.up (k + i) (k + j) (omega arith) (omega arith) in omega (arith, number_behind s k i, number_behind s k j));
  }
    where
      first_least : {y : ℕ} → number_at (drop (8 * k) s) 0 ≤ y → number_at s 0 ≤ y
      first_least {y} l =
          let g = weak n s x.up 0 k (omega arith) h in
          let w : k + 0 ≡ k = omega arith in
          omega (arith, number_behind s k 0, ap (number_at s) w)

pub indexed_behind : (u : List ℕ) (us : ℕ) (s : List ℕ) (k : ℕ) → Indexed u us s → Indexed u us (drop (8 * k) s)
unfolding Indexed
indexed_behind u us s k x h =
    let l = length-drop (8 * k) s in
    let i = x (omega arith) in
    let m = i.1.long in
    (i.0 - k, sorted_behind u us i.0 s i.1 k (omega arith))
