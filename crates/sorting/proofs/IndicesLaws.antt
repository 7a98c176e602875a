-- Laws of two indices at the end of an output, and of a key that is found by one. Assumes nothing.
use mathlib.Core.Path.{◌≡◌, refl, sym, ap, ◌∙◌, subst}
use mathlib.Core.Bool.{Bool, true, false, true≢false}
use mathlib.Core.List.{List, ◌++◌, append_assoc}
use Prim.Native.Nat.{ℕ, ◌+◌, ◌-◌, ◌*◌, ◌/◌, ◌≤◌, ◌<◌}
use native.Mathlib.Omega.{arith}
use lib.ListN.{length, take, drop, length-take, length-drop, length-append}
use lib.Seq.{take_all, take_at, drop_at, drop-drop, drop-append-le}
use Rattle.base.proofs.ListLaws.{drop_take}
use Rattle.skeleton.specs.Place.{between}
use Rattle.sorting.specs.Places.{Indexed}
use Rattle.sorting.specs.Indices.{Indices, reach, Spared, Beyond, Past}
use Rattle.sorting.specs.declared.limits.Limits.{Limits}
use Rattle.sorting.proofs.IndexLaws.{indexed_behind}

-- ---- no index

pub indexed_empty : (f : List ℕ) (start : ℕ) (s : List ℕ) → length s ≡ 0 → Indexed f start s
unfolding Indexed
indexed_empty f start s e = λ h. absurd (omega arith)

none_between : (f : List ℕ) (start : ℕ) (s : List ℕ) (a : ℕ) → Indexed f start (between s a a)
none_between f start s a = indexed_empty f start (between s a a) (simp length-take (omega arith))

none_behind : (f : List ℕ) (start : ℕ) (s : List ℕ) (a : ℕ) → length s ≤ a → Indexed f start (drop a s)
none_behind f start s a h = indexed_empty f start (drop a s) (simp length-drop (omega arith))

-- ---- `new_index`

pub to_end : (l : List ℕ) (a : ℕ) → take (length l - a) (drop a l) ≡ drop a l
to_end l a = take_all (length l - a) (drop a l) (omega (arith, length-drop a l))

-- ---- bytes that are as they were

-- further on they are so too
pub beyond_from : (to : ℕ) (before out : List ℕ) → Beyond to before out → (k : ℕ) → to ≤ k → drop k out ≡ drop k before
beyond_from to before out b k h =
    let e : to + (k - to) ≡ k = omega arith in
    let further : (l : List ℕ) → drop k l ≡ drop (k - to) (drop to l) = λ l. sym (drop-drop (k - to) to l ∙ ap (λ (n : ℕ). drop n l) e) in
    further out ∙ ap (drop (k - to)) b.same ∙ sym (further before)

pub beyond_same : (to : ℕ) (l : List ℕ) → Beyond to l l
beyond_same to l = record { long = refl; same = refl }

pub beyond_then : (i j : ℕ) (a b c : List ℕ) → i ≤ j → Beyond i a b → Beyond j b c → Beyond j a c
beyond_then i j a b c h x y = record { long = y.long ∙ x.long; same = y.same ∙ beyond_from i a b x j h }

-- ---- `lay_both`

module _ (d : List ℕ) (ds : ℕ) (u : List ℕ) (us : ℕ) where
  pub both_one : (dry sure : Bool) (out : List ℕ) (new : ℕ) → new ≤ length out → Indexed u us (drop new out)
      → Indices d ds u us (record { old = new; new = new; dry = dry; sure = sure }) out
  both_one dry sure out new h i = record { runs = omega arith; inside = h; old = none_between d ds out new; new = i }

  pub both_two : (before out : List ℕ) (old new : ℕ) → new ≤ length out → Indexed u us (drop new before) → old ≤ new → Indexed d ds (between out old new) → drop new out ≡ drop new before
      → Indices d ds u us (record { old = old; new = new; dry = false; sure = false }) out
  both_two before out old new h i r j e = record { runs = r; inside = h; old = j; new = subst (Indexed u us) (sym e) i }

  -- ---- `spare`

  module _ (lim : Limits) (to end : ℕ) (x : end ≡ reach lim to) (out : List ℕ) (s : Spared d ds u us lim to out) where
    pub spare_both : (old : ℕ) → Past lim.old end old → old ≤ lim.new
        → Indices d ds u us (record { old = old; new = lim.new; dry = lim.dry; sure = lim.sure }) out
    spare_both old p h =
        let e = p.is in
        let r = p.reached in
        let z : lim.new + 8 * 0 ≡ lim.new = omega arith in
        record {
          runs = h;
          inside = s.inside;
          old = subst (λ (i : ℕ). Indexed d ds (between out i lim.new)) (sym e) (s.old p.steps (omega arith) (omega arith));
          new = subst (λ (i : ℕ). Indexed u us (drop i out)) z (s.new 0 (omega arith) (let i = s.inside in omega arith));
        }

    pub spare_new : (new : ℕ) → Past lim.new end new → (all : ℕ) → length out ≡ all → new ≤ all
        → Indices d ds u us (record { old = new; new = new; dry = lim.dry; sure = lim.sure }) out
    spare_new new p all l h =
        let e = p.is in
        let r = p.reached in
        both_one lim.dry lim.sure out new (omega arith) (subst (λ (i : ℕ). Indexed u us (drop i out)) (sym e) (s.new p.steps (omega arith) (omega arith)))

    pub spare_none : (all : ℕ) → length out ≡ all → Indices d ds u us (record { old = all; new = all; dry = lim.dry; sure = lim.sure }) out
    spare_none all e = both_one lim.dry lim.sure out all (omega arith) (none_behind u us out all (omega arith))

  -- ---- what is kept where bytes are written

  module _ (lim : Limits) where
    pub spared_start : (to : ℕ) (out : List ℕ) → (lim.dry ≡ true → length out < to) → Indices d ds u us lim out → Spared d ds u us lim to out
    spared_start to out x i = record {
      runs = i.runs;
      inside = i.inside;
      old = λ k h g.
          let e : lim.new - lim.old - 8 * k ≡ lim.new - (lim.old + 8 * k) = omega arith in
          subst (Indexed d ds)
          (drop_take (8 * k) (lim.new - lim.old) (drop lim.old out)
          ∙ ap (take (lim.new - lim.old - 8 * k)) (drop-drop (8 * k) lim.old out)
          ∙ ap (λ (n : ℕ). take n (drop (lim.old + 8 * k) out)) e)
          (indexed_behind d ds (between out lim.old lim.new) k i.old);
      new = λ k h g. subst (Indexed u us) (drop-drop (8 * k) lim.new out) (indexed_behind u us (drop lim.new out) k i.new);
      past = x;
    }

    -- a dry pass has written nothing, and so nothing is lost
    spared_dry : (to next : ℕ) (out : List ℕ) → to ≤ next → lim.dry ≡ true → Spared d ds u us lim to out → Spared d ds u us lim next out
    unfolding reach
    spared_dry to next out h x s =
        let none : (n : ℕ) → reach lim n ≡ 0 = λ n. rw x in
        record {
          runs = s.runs;
          inside = s.inside;
          old = λ k g e. s.old k (let z = none to in omega arith) e;
          new = λ k g e. s.new k (let z = none to in omega arith) e;
          past = λ y. let z = s.past y in omega arith;
        }

    spared_wet : (to next : ℕ) (before out : List ℕ) → to ≤ next → Beyond next before out → lim.dry ≡ false → Spared d ds u us lim to before → Spared d ds u us lim next out
    unfolding reach
    spared_wet to next before out h b x s =
        let all : (n : ℕ) → reach lim n ≡ n = λ n. rw x in
        let i = all to in
        let j = all next in
        record {
          runs = s.runs;
          inside = (let l = b.long in let i = s.inside in omega arith);
          old = λ k g e.
              subst (Indexed d ds) (ap (take (lim.new - (lim.old + 8 * k))) (sym (beyond_from next before out b (lim.old + 8 * k) (omega arith)))) (s.old k (omega arith) e);
          new = λ k g e.
              subst (Indexed u us) (sym (beyond_from next before out b (lim.new + 8 * k) (omega arith))) (s.new k (omega arith) (let l = b.long in omega arith));
          past = λ y. absurd (true≢false (sym y ∙ x));
        }

    spared_by : (to next : ℕ) (before out : List ℕ) → to ≤ next → Beyond next before out → (length before < to → out ≡ before) → Spared d ds u us lim to before
        → (y : Bool) → lim.dry ≡ y → Spared d ds u us lim next out
    spared_by to next before out h b z s true x = subst (Spared d ds u us lim next) (sym (z (s.past x))) (spared_dry to next before h x s)
    spared_by to next before out h b z s false x = spared_wet to next before out h b x s

    -- from `to` on, where the output was `before`, no byte behind `next` was written, and none at all from behind the output's end on
    pub spared_on : (to next : ℕ) (before out : List ℕ) → to ≤ next → Beyond next before out → (length before < to → out ≡ before) → Spared d ds u us lim to before → Spared d ds u us lim next out
    spared_on to next before out h b z s =
        spared_by to next before out h b z s lim.dry refl

-- ---- `reached`

pub reach_dry : (lim : Limits) (to : ℕ) → lim.dry ≡ true → (0 ≡ reach lim to) × (0 ≤ to)
unfolding reach
reach_dry lim to x = (rw x, omega arith)

pub reach_wet : (lim : Limits) (to : ℕ) → lim.dry ≡ false → (to ≡ reach lim to) × (to ≤ to)
unfolding reach
reach_wet lim to x = (rw x, omega arith)

-- ---- `past`

pub past_none : (at to : ℕ) → to ≤ at → Past at to at
past_none at to h = record { steps = 0; is = omega arith; reached = h }

pub past_some : (at to : ℕ) → at < to → Past at to (at + 8 * ((to - at + 7) / 8))
past_some at to h = record { steps = (to - at + 7) / 8; is = refl; reached = omega arith }

-- ---- `lay_in`

-- l with m in place of the bytes from `from` up to `to`
module _ (l m : List ℕ) (from to : ℕ) (h : from ≤ to) (g : to ≤ length l) (e : length m ≡ to - from) where
  abbrev relaid : List ℕ
  relaid = take from l ++ (m ++ drop (to - from) (drop from l))

  front : length (take from l) ≡ from
  front = simp length-take (omega arith)

  pub relaid_behind : drop to relaid ≡ drop to l
  relaid_behind =
      let i : from + (to - from) ≡ to = omega arith in
      ap (drop to) (sym (append_assoc (take from l) m (drop (to - from) (drop from l))))
      ∙ drop_at (take from l ++ m) (drop (to - from) (drop from l)) to (length-append (take from l) m ∙ omega (arith, front))
      ∙ drop-drop (to - from) from l ∙ ap (λ (n : ℕ). drop n l) i

  pub relaid_part : (k : ℕ) → k ≤ length m → between relaid (from + k) to ≡ drop k m
  relaid_part k i =
      let rest = drop (to - from) (drop from l) in
      ap (take (to - (from + k)))
      (sym (drop-drop k from relaid) ∙ ap (drop k) (drop_at (take from l) (m ++ rest) from front) ∙ drop-append-le k m rest i)
      ∙ take_at (drop k m) rest (to - (from + k)) (length-drop k m ∙ omega arith)

  pub relaid_indexed : (f : List ℕ) (start k : ℕ) → k ≤ length m → Indexed f start (drop k m)
      → (from + k ≤ to) × Indexed f start (between relaid (from + k) to) × (drop to relaid ≡ drop to l)
  relaid_indexed f start k i x = (omega arith, subst (Indexed f start) (sym (relaid_part k i)) x, relaid_behind)
