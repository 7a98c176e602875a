-- Laws of a key that stands in a file. Assumes nothing.
use mathlib.Core.Path.{◌≡◌, refl, sym, ap, ◌∙◌}
use mathlib.Core.List.{List}
use mathlib.Core.Bool.{Bool, true, true≢false}
use Prim.Native.Nat.{ℕ, zero, suc, ◌+◌, ◌-◌, ◌/◌, ◌^◌, ◌≤◌, ◌<◌}
use native.Mathlib.Omega.{arith}
use borrow.Author.Tests.{lt-ltb, le-ltb, ltb-true, le-leb, lt-leb, leb-true}
use lib.Dec.{leb, ltb}
use lib.ListN.{length, get_or}
use Rattle.std.specs.Prelude.{Option, Some, None, is_some, IfSome}
use Rattle.base.proofs.ChoiceLaws.{by_test}
use Rattle.keys.specs.Bits.{flag_of}
use Rattle.keys.specs.Listed.{keys_from, has_from}
use Rattle.keys.specs.Look.{looked, look_at, Sound}
use Rattle.keys.specs.Slots.{slot_in}
use Rattle.keys.specs.Order.{Ascending}
use Rattle.keys.specs.Places.{here, over, Names, site_in}
use Rattle.keys.specs.Table.{Tail, Tails, Close, Laid, Half, half, middle, half_by, halved, start_near}
use Rattle.keys.specs.declared.look.Look.{Look}
use Rattle.keys.proofs.SoundLaws.{sound_word}
use Rattle.keys.proofs.SlotLaws.{slots_say}
use Rattle.keys.proofs.PlaceLaws.{leads_then, leads_listed, site_ahead, site_says}
use Rattle.keys.proofs.TableLaws.{tail_start, tail_sound}

-- ---- `site_near`, by the look e at p

module _ (f : List ℕ) (start p : ℕ) (l : Tail f start p) (e : Option Look) (en : e ≡ look_at f p) (look : Look) (x : e ≡ Some look) where
  pub near_on : Tail f start (p + look.len)
  near_on = record { sound = l.sound; leads = leads_then l.leads (over (sym en ∙ x) here) }

  pub near_word : p + look.len < 2 ^ 64
  near_word = sound_word f p (tail_sound f start p l) e en look x

  pub near_found : (k : ℕ) → look.key ≡ k → has_from f start k ≡ true
  near_found k y = leads_listed l.sound l.leads look.len k (sym en ∙ x ∙ ap (looked look.len) y)

  -- `start_near`: where the keys ascend, none before one that is not above the key is the key
  pub close_at : (k : ℕ) → look.key ≤ k → Close f start k p
  unfolding Ascending
  close_at k h = record { tail = l; kept = λ a. site_ahead l.sound l.leads 0 a look.len look.key (sym en ∙ x) k h }

pub near_in : (f : List ℕ) (start p : ℕ) → Tail f start p → p ≤ length f
near_in f start p l = (tail_sound f start p l).inside

pub near_small : (f : List ℕ) (start p : ℕ) → Tail f start p → length f ≤ 16777216
near_small f start p l = l.sound.small

-- ---- `start_near`

module _ (f : List ℕ) (start : ℕ) (t : List ℕ) (n : ℕ) (map : List ℕ) (r : Laid f start t n map) where
  pub laid_start : Tail f start start
  laid_start = tail_start f start r.sound

  pub close_start : (k : ℕ) → Close f start k start
  close_start k = record { tail = laid_start; kept = λ _. refl }

  pub laid_ascends : (b : Bool) → b ≡ flag_of map 262144 → b ≡ true → Ascending (keys_from f start)
  laid_ascends b e x = r.ordered (sym e ∙ x)

  pub laid_small : length f ≤ 16777216
  laid_small = r.sound.small

  pub laid_sound : Sound f start
  laid_sound = r.sound

  module _ (lo hi : ℕ) (h : lo < hi) (g : hi ≤ n) where
    pub laid_room : lo + (hi - lo) / 2 < length t
    laid_room = let l = r.room in omega arith

    pub laid_tail : (q : ℕ) → q ≡ get_or t (lo + (hi - lo) / 2) 0 → Tail f start q
    unfolding Tails
    laid_tail q e = rw e (r.tails (lo + (hi - lo) / 2) laid_room)

    pub laid_in : (q : ℕ) → q ≡ get_or t (lo + (hi - lo) / 2) 0 → q ≤ length f
    laid_in q e = (tail_sound f start q (laid_tail q e)).inside

-- the entries from lo up to hi are still to be tried, and there are steps enough for them
pub record Halving (f : List ℕ) (start : ℕ) (t : List ℕ) (n key lo hi p : ℕ) : Type 0 where
  pub inside : hi ≤ n
  pub steps : ℕ
  pub enough : hi ≤ lo + steps
  pub same : (halved steps f t key (half lo hi p)).place ≡ start_near f start t n key

pub halving_start : (f : List ℕ) (start : ℕ) (t : List ℕ) (n key : ℕ) → Halving f start t n key 0 n start
unfolding start_near
halving_start f start t n key = record { inside = omega arith; steps = n; enough = omega arith; same = refl }

-- no entry is left
halved_over : (n : ℕ) (f t : List ℕ) (key lo hi p : ℕ) → hi ≤ lo → halved n f t key (half lo hi p) ≡ half lo hi p
unfolding halved
halved_over zero f t key lo hi p h = refl
halved_over (suc n) f t key lo hi p h = rw (le-ltb lo hi h) refl

module _ (f : List ℕ) (start : ℕ) (t : List ℕ) (n key lo hi p : ℕ) (s : Halving f start t n key lo hi p) where
  pub halving_over : hi ≤ lo → p ≡ start_near f start t n key
  halving_over h = ap (λ (x : Half). x.place) (sym (halved_over s.steps f t key lo hi p h)) ∙ s.same

  pub halving_in : hi ≤ n
  halving_in = s.inside

  -- by the look e at the entry in the middle
  module _ (h : lo < hi) (q : ℕ) (eq : q ≡ get_or t (lo + (hi - lo) / 2) 0) (e : Option Look) (en : e ≡ look_at f q) where
    halved_one : (j : ℕ) → halved (suc j) f t key (half lo hi p) ≡ halved j f t key (half_by key (half lo hi p) (lo + (hi - lo) / 2) q e)
    unfolding halved
    halved_one j = rw (lt-ltb lo hi h, en, eq) refl

    halving_on : (lo' hi' p' : ℕ) → half_by key (half lo hi p) (lo + (hi - lo) / 2) q e ≡ half lo' hi' p' → hi' ≤ n → (hi' + lo < hi + lo') → Halving f start t n key lo' hi' p'
    halving_on lo' hi' p' ex i g = go s.steps s.enough s.same
      where
        go : (j : ℕ) → hi ≤ lo + j → (halved j f t key (half lo hi p)).place ≡ start_near f start t n key → Halving f start t n key lo' hi' p'
        go zero a b = absurd (omega arith)
        go (suc j) a b = record {
          inside = i;
          steps = j;
          enough = omega arith;
          same = ap (λ (x : Half). x.place) (ap (halved j f t key) (sym ex) ∙ sym (halved_one j)) ∙ b;
        }

    module _ (look : Look) (x : e ≡ Some look) where
      pub halving_up : look.key ≤ key → Halving f start t n key (lo + (hi - lo) / 2 + 1) hi q
      halving_up y = halving_on (lo + (hi - lo) / 2 + 1) hi q (rw (x, le-leb look.key key y) refl) s.inside (omega arith)

      pub halving_down : key < look.key → Halving f start t n key lo (lo + (hi - lo) / 2) p
      halving_down y = halving_on lo (lo + (hi - lo) / 2) p (rw (x, lt-leb look.key key y) refl) (let i = s.inside in omega arith) (omega arith)

    pub halving_nothing : e ≡ None → p ≡ start_near f start t n key
    halving_nothing x = go s.steps s.enough s.same
      where
        go : (j : ℕ) → hi ≤ lo + j → (halved j f t key (half lo hi p)).place ≡ start_near f start t n key → p ≡ start_near f start t n key
        go zero a b = absurd (omega arith)
        go (suc j) a b =
            let y : half_by key (half lo hi p) (lo + (hi - lo) / 2) q e ≡ half hi hi p = rw x refl in
            ap (λ (z : Half). z.place) (sym (halved_over j f t key hi hi p (omega arith)) ∙ ap (halved j f t key) (sym y) ∙ sym (halved_one j)) ∙ b

pub ruleset half_turn = (
  halving_start,
  halving_over,
  halving_in,
  halving_up,
  halving_down,
  halving_nothing,
  laid_small,
  laid_in,
  laid_room,
  arith,
)

-- the place that is found so is close
module _ (f : List ℕ) (start : ℕ) (t : List ℕ) (n : ℕ) (map : List ℕ) (r : Laid f start t n map) (key : ℕ) where
  -- by what stands at the entry q
  close_look : (h : Half) (m q : ℕ) → Close f start key h.place → Tail f start q → (e : Option Look) → e ≡ look_at f q → Close f start key (half_by key h m q e).place
  close_look h m q c l (Some look) en =
      by_test (λ (x : Half). Close f start key x.place) (leb look.key key) _ _
      (λ y. close_at f start q l (Some look) en look refl key (leb-true look.key key y))
      (λ _. c)
  close_look h m q c l None en = c

  inside_look : (h : Half) (m q : ℕ) → m ≤ n → h.hi ≤ n → (e : Option Look) → (half_by key h m q e).hi ≤ n
  inside_look h m q a b (Some look) = by_test (λ (x : Half). x.hi ≤ n) (leb look.key key) _ _ (λ _. b) (λ _. a)
  inside_look h m q a b None = b

  close_halved : (j : ℕ) (h : Half) → h.hi ≤ n → Close f start key h.place → Close f start key (halved j f t key h).place
  unfolding halved
  close_halved zero h g c = c
  close_halved (suc j) h g c =
      by_test (λ (x : Half). Close f start key x.place) (ltb h.lo h.hi) _ _
      (λ y.
      let i = ltb-true h.lo h.hi y in
      let q = get_or t (middle h) 0 in
      let e = look_at f q in
      close_halved j (half_by key h (middle h) q e) (inside_look h (middle h) q (omega arith) g e)
      (close_look h (middle h) q c (laid_tail f start t n map r h.lo h.hi i g q refl) e refl))
      (λ _. c)

  pub close_near : (p : ℕ) → p ≡ start_near f start t n key → Close f start key p
  unfolding start_near
  close_near p e = rw e (close_halved n (half 0 n start) (omega arith) (close_start f start t n map r key))

  pub close_tail : (p : ℕ) → p ≡ start_near f start t n key → Tail f start p
  close_tail p e = (close_near p e).tail

-- ---- `has`

module _ (f : List ℕ) (start : ℕ) (t : List ℕ) (n : ℕ) (map : List ℕ) (l : Laid f start t n map) (k : ℕ) (r : Option ℕ) where
  pub has_flag : r ≡ slot_in k → (s : ℕ) → r ≡ Some s → s / 8 < length map → (b : Bool) → b ≡ flag_of map s → b ≡ has_from f start k
  unfolding has_from
  has_flag e s x g b y = y ∙ slots_say (keys_from f start) map k l.slots r e s x g

  module _ (b : Bool) (eb : b ≡ is_some r) where
    pub has_near : IfSome r (Names f start k) → b ≡ true → b ≡ has_from f start k
    has_near g y = go r refl g
      where
        go : (o : Option ℕ) → r ≡ o → IfSome o (Names f start k) → b ≡ has_from f start k
        go (Some p) x m = y ∙ sym (leads_listed l.sound m.leads m.len k m.look)
        go None x m = absurd (true≢false (sym y ∙ eb ∙ ap is_some x))

    pub has_site : r ≡ site_in f start k → b ≡ has_from f start k
    has_site e = eb ∙ site_says f start k l.sound r e

pub ruleset has_ways = (has_flag, has_near, has_site, close_near, close_tail, laid_small, laid_sound, laid_ascends, arith)
