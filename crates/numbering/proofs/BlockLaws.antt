-- Laws of the tallies of a book, and of the numbers of a block of items. Assumes nothing.
use mathlib.Core.Path.{◌≡◌, refl, sym, ap, ◌∙◌}
use mathlib.Core.List.{List}
use mathlib.Core.Logic.{⊎_elim}
use Prim.Native.Nat.{ℕ, zero, suc, ◌+◌, ◌-◌, ◌*◌, ◌≤◌, ◌<◌}
use native.Mathlib.Numerals.{add-one}
use native.Mathlib.Omega.{arith}
use borrow.Author.Tests.{eq-eqb, ne_eqb, eqb-true}
use lib.ListN.{length, get_or, set, replicate, length-set}
use lib.Seq.{get_or-set_same, get_or-set_other}
use Rattle.forest.proofs.Numbers.{lt_or_le, eq_or_ne}
use Rattle.book.specs.Book.{page_of, written}
use Rattle.items.specs.Items.{depth_of, code_of, twin_at}
use Rattle.items.proofs.ItemLaws.{twin_both, twin_depth, twin_code}
use Rattle.numbering.specs.Numbers.{parent_before, twins_before}
use Rattle.numbering.specs.Block.{Parents, kin, keyed, Tallied, Joined, Numbered}
use Rattle.numbering.proofs.BackLaws.{parent_over_less, parent_over, twins_start, twins_over_less, twins_over}
use Rattle.numbering.proofs.KnownLaws.{twins_few, parent_few, zero_at}

-- ---- items of one depth, code and parent

module _ (w : List ℕ) (d c : ℕ) where
  kin_here : (p i : ℕ) → parent_before w d i ≡ p → kin w d c p (suc i) ≡ twin_at w i d c + kin w d c p i
  unfolding kin
  kin_here p i e = rw (eq-eqb (parent_before w d i) p e)

  kin_there : (p i : ℕ) → (parent_before w d i ≡ p → ⊥) → kin w d c p (suc i) ≡ kin w d c p i
  unfolding kin
  kin_there p i e = rw (ne_eqb (parent_before w d i) p e) (omega arith)

  -- none below a place that is not among the items
  kin_none : (p i : ℕ) → i ≤ p → kin w d c p i ≡ 0
  unfolding kin
  kin_none p zero h = refl
  kin_none p (suc i) h = kin_there p i (λ e. omega (arith, e, parent_few w d i)) ∙ kin_none p i (omega arith)

  -- the twins before an item are those of its parent
  kin_twins : (i : ℕ) → twins_before w d c i ≡ kin w d c (parent_before w d i) i
  unfolding kin
  kin_twins zero = twins_start w d c
  kin_twins (suc i) =
      ⊎_elim
      (λ (h : depth_of w i < d).
      twins_over_less w d c i h ∙ sym (kin_none (suc i) (suc i) (omega arith)) ∙ sym (ap (λ (p : ℕ). kin w d c p (suc i)) (parent_over_less w d i h)))
      (λ (h : d ≤ depth_of w i).
      twins_over w d c i h
      ∙ ap (λ (x : ℕ). twin_at w i d c + x) (kin_twins i)
      ∙ sym (kin_here (parent_before w d i) i refl)
      ∙ sym (ap (λ (p : ℕ). kin w d c p (suc i)) (parent_over w d i h)))
      (lt_or_le (depth_of w i) d)

  -- one item more, which is of them
  kin_more : (p i : ℕ) → depth_of w i ≡ d → code_of w i ≡ c → parent_before w d i ≡ p → kin w d c p (i + 1) ≡ kin w d c p i + 1
  kin_more p i ed ec ep = rw (add-one i) (omega (arith, kin_here p i ep, twin_both w i d c ed ec))

  -- one that is not
  kin_same : (p i : ℕ) → (depth_of w i ≡ d → code_of w i ≡ c → parent_before w d i ≡ p → ⊥) → kin w d c p (i + 1) ≡ kin w d c p i
  kin_same p i other =
      rw (add-one i)
      (⊎_elim
      (λ (ep : parent_before w d i ≡ p).
      let none : twin_at w i d c ≡ 0 = ⊎_elim
      (λ (ed : depth_of w i ≡ d). twin_code w i d c ed (λ ec. other ed ec ep))
      (λ (nd : depth_of w i ≡ d → ⊥). twin_depth w i d c nd)
      (eq_or_ne (depth_of w i) d) in
      omega (arith, kin_here p i ep))
      (λ (np : parent_before w d i ≡ p → ⊥). kin_there p i np)
      (eq_or_ne (parent_before w d i) p))

-- ---- the tallies

-- two numbers are told from one
parted : (a x b y : ℕ) → x < 65536 → y < 65536 → a * 65536 + x ≡ b * 65536 + y → (a ≡ b) × (x ≡ y)
parted a x b y h l e = (omega arith, omega arith)

-- depth, code and parent are
keyed_same : (d c p e f q : ℕ) → d < 65536 → c < 65536 → e < 65536 → f < 65536 → keyed d c p ≡ keyed e f q → (d ≡ e) × (c ≡ f) × (p ≡ q)
keyed_same d c p e f q hd hc he hf same =
    let low = parted (p * 65536 + d) c (q * 65536 + e) f hc hf same in
    let high = parted p d q e hd he low.0 in
    (high.1, low.1, high.0)

-- no item counted
pub tallied_none : (w b : List ℕ) (n : ℕ) → Tallied w b (replicate n 0) 0
unfolding Tallied kin
tallied_none w b n d c p hd hc there = zero_at n (page_of b (keyed d c p))

module _ (w b t : List ℕ) (i : ℕ) (ts : Tallied w b t i) (parent : ℕ) (ep : parent ≡ parent_before w (depth_of w i) i) (key : ℕ)
    (ek : key ≡ keyed (depth_of w i) (code_of w i) parent) (hd : depth_of w i < 65536) (hc : code_of w i < 65536) (j : ℕ) (ej : j ≡ page_of b key) where
  -- the number of an item of one depth, code and parent is theirs
  own_key : (d c p : ℕ) → depth_of w i ≡ d → code_of w i ≡ c → parent_before w d i ≡ p → keyed d c p ≡ key
  own_key d c p ed ec e =
      let q : parent ≡ p = ep ∙ ap (λ (x : ℕ). parent_before w x i) ed ∙ e in
      sym (ek ∙ rw (ed, ec, q) refl)

  -- an item that the book does not have
  stray : (get_or b j 0 ≡ key → ⊥) → Tallied w b t (i + 1)
  unfolding Tallied written
  stray none d c p ld lc there =
      ts d c p ld lc there
      ∙ sym
      (kin_same w d c p i
      (λ ed ec e.
      let k = own_key d c p ed ec e in
      none (rw (ej, ← k) (eqb-true (get_or b (page_of b (keyed d c p)) 0) (keyed d c p) there))))

  -- it may stand, if its twins are not asked for
  pub join_stray : (asked : Type 0) → (get_or b j 0 ≡ key → ⊥) → (asked → ⊥) → Joined w b t i asked 0
  join_stray asked none un = record { tallied = stray none; twins = λ a. absurd (un a); few = omega arith }

  -- its twins were looked for
  pub join_looked : (asked : Type 0) → (get_or b j 0 ≡ key → ⊥) → (d c r : ℕ) → d ≡ depth_of w i → c ≡ code_of w i → r ≡ twins_before w d c i → Joined w b t i asked r
  join_looked asked none d c r ed ec e = record { tallied = stray none; twins = λ a. rw (← ed, ← ec) e; few = omega (arith, twins_few w d c i) }

  module _ (there : get_or b j 0 ≡ key) (x : ℕ) (ex : x ≡ get_or t j 0) where
    -- the tally of an item that the book has
    pub tally_now : x ≡ twins_before w (depth_of w i) (code_of w i) i
    unfolding Tallied written
    tally_now =
        let k : key ≡ keyed (depth_of w i) (code_of w i) (parent_before w (depth_of w i) i) = rw ep at ek in
        let m = ts (depth_of w i) (code_of w i) (parent_before w (depth_of w i) i) hd hc (rw (← k, ← ej) (eq-eqb (get_or b j 0) key there)) in
        ex ∙ (rw (← k, ← ej) at m) ∙ sym (kin_twins w (depth_of w i) (code_of w i) i)

    pub tally_few : x ≤ i
    tally_few = omega (arith, tally_now, twins_few w (depth_of w i) (code_of w i) i)

    -- one more
    counted : j < length t → Tallied w b (set t j (x + 1)) (i + 1)
    unfolding Tallied written
    counted h d c p ld lc has =
        let at-page : get_or b (page_of b (keyed d c p)) 0 ≡ keyed d c p = eqb-true (get_or b (page_of b (keyed d c p)) 0) (keyed d c p) has in
        let old = ts d c p ld lc has in
        ⊎_elim
        (λ (s : keyed d c p ≡ key).
        let page : page_of b (keyed d c p) ≡ j = sym (ej ∙ ap (page_of b) (sym s)) in
        let parts = keyed_same d c p (depth_of w i) (code_of w i) parent ld lc hd hc (s ∙ ek) in
        let e : parent_before w d i ≡ p = ap (λ (z : ℕ). parent_before w z i) parts.0 ∙ sym (parts.2 ∙ ep) in
        let was : x ≡ kin w d c p i = ex ∙ (rw page at old) in
        rw (page, get_or-set_same t j (x + 1) 0 h) (omega (arith, was, kin_more w d c p i (sym parts.0) (sym parts.1) e)))
        (λ (n : keyed d c p ≡ key → ⊥).
        let other : (page_of b (keyed d c p) ≡ j → ⊥) = λ y. n (sym at-page ∙ ap (λ (z : ℕ). get_or b z 0) y ∙ there) in
        rw (get_or-set_other t j (page_of b (keyed d c p)) (x + 1) 0 other) (old ∙ sym (kin_same w d c p i (λ ed ec e. n (own_key d c p ed ec e)))))
        (eq_or_ne (keyed d c p) key)

    pub join_counted : (asked : Type 0) → j < length t → Joined w b (set t j (x + 1)) i asked x
    join_counted asked h = record { tallied = counted h; twins = λ a. tally_now; few = tally_few }

-- ---- the numbers of a block

pub numbered_none : (w : List ℕ) (x : ℕ) (l : List ℕ) → Numbered w x x l
unfolding Numbered
numbered_none w x l i h m = absurd (omega arith)

-- one item more
pub numbered_more : (w : List ℕ) (x i : ℕ) (l : List ℕ) (a p : ℕ) → x ≤ i → 2 * (i - x) + 1 < length l → Numbered w x i l
    → a ≡ twins_before w (depth_of w i) (code_of w i) i → p ≡ parent_before w (depth_of w i) i
    → Numbered w x (i + 1) (set (set l (2 * (i - x)) (a + 1)) (2 * (i - x) + 1) p)
unfolding Numbered
numbered_more w x i l a p h room before ea ep n hn ln =
    let k : ℕ = 2 * (i - x) in
    let l₁ : List ℕ = set l k (a + 1) in
    ⊎_elim
    (λ (m : n < i).
    let q = before n hn m in (
      get_or-set_other l₁ (k + 1) (2 * (n - x)) p 0 (λ e. omega (arith, e)) ∙ get_or-set_other l k (2 * (n - x)) (a + 1) 0 (λ e. omega (arith, e)) ∙ q.0,
      get_or-set_other l₁ (k + 1) (2 * (n - x) + 1) p 0 (λ e. omega (arith, e)) ∙ get_or-set_other l k (2 * (n - x) + 1) (a + 1) 0 (λ e. omega (arith, e)) ∙ q.1,
    ))
    (λ (m : i ≤ n).
    let s : n ≡ i = omega arith in
    rw s (
      get_or-set_other l₁ (k + 1) k p 0 (λ e. omega (arith, e)) ∙ get_or-set_same l k (a + 1) 0 (omega arith) ∙ ap (λ (z : ℕ). z + 1) ea,
      get_or-set_same l₁ (k + 1) p 0 (omega (arith, length-set l k (a + 1))) ∙ ep,
    ))
    (lt_or_le n i)

-- ---- the last item

pub counted_all : (w b t k : List ℕ) (i x : ℕ) → i ≤ x → x ≤ i → Tallied w b t i → Parents w i k → Tallied w b t x × Parents w x k
counted_all w b t k i x h l ts p = let e : x ≡ i = omega arith in rw e (ts, p)

pub numbered_all : (w l k : List ℕ) (x i y : ℕ) → i ≤ y → y ≤ i → Numbered w x i l → Parents w i k → Numbered w x y l × Parents w y k
numbered_all w l k x i y h m n p = let e : y ≡ i = omega arith in rw e (n, p)
