-- Laws of codes that are apart, and of keys that therefore stand once. Assumes nothing.
use mathlib.Core.Path.{◌≡◌, refl, sym, ap, ◌∙◌}
use mathlib.Core.List.{List, [], ◌∷◌, ◌++◌}
use mathlib.Core.Bool.{Bool, true, false, not, true≢false}
use Prim.Native.Nat.{ℕ, ◌+◌, ◌/◌, ◌≤◌, ◌<◌}
use native.Mathlib.Omega.{arith}
use borrow.Author.Tests.{eq-eqb, ltb-true, ltb-false, le-leb, not-true}
use lib.ListN.{length, get_or, take, drop, length-drop}
use lib.Seq.{drop-cons, drop-drop}
use lib.Dec.{eqb, ltb, leb}
use Rattle.std.specs.Prelude.{Option, Some, None, Ok}
use Rattle.base.specs.Choice.{pick, either}
use Rattle.base.specs.Check.{no, fault, pass}
use Rattle.base.specs.Keys.{same, among}
use Rattle.base.specs.Lists.{each, gather}
use Rattle.base.specs.Verdict.{verdict_of}
use Rattle.base.proofs.ChoiceLaws.{either_true}
use Rattle.base.proofs.KeysLaws.{same_sound}
use Rattle.base.proofs.ListLaws.{each_append}
use Rattle.memory.specs.Hold.{zeros}
use Rattle.skeleton.specs.File.{Field}
use Rattle.skeleton.specs.Place.{fields_at}
use Rattle.skeleton.specs.declared.directory.Shape.{Shape}
use Rattle.rules.specs.Associations.{Mark, field_marks, marks, keys_once}
use Rattle.rules.proofs.MarkLaws.{mark_key, field_marked}
use Rattle.keys.specs.Bits.{flag_of, raised}
use Rattle.keys.specs.Listed.{listed}
use Rattle.keys.proofs.ListLaws.{listed_more, split_room, split_drop, split_take}
use Rattle.book.specs.Book.{page_of, Met}
use Rattle.book.proofs.BookLaws.{met_none, met_more, met_says, enter_written, enter_not}
use Rattle.contents.specs.Fit.{all_fit}
use Rattle.contents.specs.Keys.{keys_in, once_from}
use Rattle.contents.specs.Codes.{code_of, codes_in, walk_from, codes_from, Apart, Walks, Behind, Steps, Gathers, Joins}
use Rattle.contents.specs.declared.codes.Walk.{Walk}
use Rattle.contents.specs.declared.once.Gathered.{Gathered}
use Rattle.contents.proofs.CodeLaws.{from_codes, from_walks}

-- what a test is sure of, where it did not say no
by_yes : {X : Type 0} (v : Bool) → (v ≡ true → X) → not v ≡ false → X
by_yes true sure z = sure refl
by_yes false sure z = absurd (true≢false z)

-- ---- codes that are apart

pub apart_none : (l : List ℕ) → Apart l 0
unfolding Apart
apart_none l i h = absurd (omega arith)

-- the code behind y codes, where it is asked for behind the first x
module _ (l : List ℕ) (x y code : ℕ) (rest : List ℕ) (e : drop y l ≡ code ∷ rest) where
  code_is : get_or l y 0 ≡ code
  code_is = let c = sym (drop-cons l y 0 (split_room l y code rest e)) ∙ e in cc

  apart_more : Apart l x → Apart l y → (x ≤ y → listed code (take y l) ≡ false) → Apart l (y + 1)
  unfolding Apart
  apart_more ax ay new i h = go (ltb i y) refl (ltb i x) refl
    where
      go : (a : Bool) → ltb i y ≡ a → (b : Bool) → ltb i x ≡ b → listed (get_or l i 0) (take i l) ≡ false
      go true ea b eb = ay i (ltb-true i y ea)
      go false ea true eb = ax i (ltb-true i x eb)
      go false ea false eb =
          let m = ltb-false i y ea in
          let n = ltb-false i x eb in
          let s : i ≡ y = omega arith in
          rw (s, code_is) (new (omega arith))

-- ---- keys whose codes are apart stand once

marked : (i : ℕ) (fs : List Field) → each mark_key (marks i fs) ≡ keys_in fs
unfolding each marks keys_in gather
marked i [] = refl
marked i (f ∷ fs) = each_append mark_key (field_marks i f) (marks (i + 1) fs) ∙ rw (field_marked i f, marked (i + 1) fs) refl

-- the codes of the keys that were seen are among the first n
abbrev Coded : List (List ℕ) → List ℕ → Type 0
Coded seen l = (k : List ℕ) → among k seen ≡ true → listed (code_of k) l ≡ true

coded_more : (seen : List (List ℕ)) (l : List ℕ) (k : List ℕ) → Coded seen l → Coded (k ∷ seen) (l ++ (code_of k ∷ []))
unfolding among
coded_more seen l k c q e = listed_more (code_of q) (code_of k) l ∙ go (same q k) refl e
  where
    go : (b : Bool) → same q k ≡ b → either b (among q seen) ≡ true → either (listed (code_of q) l) (eqb (code_of k) (code_of q)) ≡ true
    go true s h = rw (eq-eqb (code_of k) (code_of q) (ap code_of (sym (same_sound q k s)))) (either_true (listed (code_of q) l))
    go false s h = rw (c q h) refl

module _ (l : List ℕ) (m : ℕ) (a : Apart l m) (all : length l ≤ m) where
  once : (ms : List Mark) (seen : List (List ℕ)) (n : ℕ) → drop n l ≡ each code_of (each mark_key ms) → Coded seen (take n l) → keys_once seen ms ≡ pass
  unfolding keys_once each Apart
  once [] seen n e c = refl
  once (k ∷ ms) seen n e c =
      let code = code_of k.key in
      go (among k.key seen) refl
      (once ms (k.key ∷ seen) (n + 1) (split_drop l n code _ e) (rw (split_take l n code _ e) (coded_more seen (take n l) k.key c)))
    where
      go : (b : Bool) → among k.key seen ≡ b → keys_once (k.key ∷ seen) ms ≡ pass
          → pick b (no (fault 7 k.field k.tuple)) (keys_once (k.key ∷ seen) ms) ≡ pass
      go true h later =
          let room = split_room l n (code_of k.key) _ e in
          let f = a n (omega arith) in
          absurd (true≢false (sym (c k.key h) ∙ rw (code_is l n n (code_of k.key) _ e) at f))
      go false h later = later

pub apart_once : (r : List ℕ) (h : Shape) (p m : ℕ) → Apart (codes_in (fields_at r h p)) m → length (codes_in (fields_at r h p)) ≤ m → once_from r h p 0 ≡ Ok tt
unfolding once_from verdict_of codes_in keys_in gather among
apart_once r h p m a all =
    let s = once (codes_in (fields_at r h p)) m a all (marks 2 (fields_at r h p)) [] 0 (ap (each code_of) (sym (marked 2 (fields_at r h p)))) (λ k e. absurd (true≢false (sym e))) in
    rw s refl

-- ---- `gather`

module _ (r : List ℕ) (h : Shape) (w v : Walk) (k : ℕ) (rest : codes_from r h v ≡ drop k (codes_from r h w)) where
  pub gather_full : Walks r h v → (n room : ℕ) → n ≡ room → k ≤ room → n ≤ k → 0 < room → Gathers r h w room (record { count = k; on = v })
  gather_full s n room z l g o = record { walks = s; rest = rest; few = l; some = λ y. absurd (omega arith) }

  module _ (e : Option (ℕ × Walk)) (s : Steps r h v e) where
    pub gather_over : Walks r h v → e ≡ None → (room : ℕ) → k ≤ room → Gathers r h w room (record { count = k; on = v })
    gather_over g x room l = record {
      walks = g;
      rest = rest;
      few = l;
      some = λ z. ap (λ (i : ℕ). drop i (codes_from r h w)) (sym z) ∙ sym rest ∙ (rw x at s);
    }

    module _ (code : ℕ) (on : Walk) (x : e ≡ Some (code, on)) where
      pub gather_walks : Walks r h on
      gather_walks = (rw x at s).1

      pub gather_next : codes_from r h on ≡ drop (k + 1) (codes_from r h w)
      gather_next = sym (split_drop (codes_from r h w) k code (codes_from r h on) (sym rest ∙ (rw x at s).0))

pub ruleset gather_turn = (gather_full, gather_over, gather_walks, gather_next, arith)

-- ---- `join`

module _ (b t : List ℕ) (code j : ℕ) (e : j ≡ page_of b code) (new : Bool) where
  pub join_out : (get_or b j 0 ≡ code → ⊥) → not new ≡ true → Joins b t t code new
  join_out n z = record { flags = enter_not b t code j e n; fresh = λ y. absurd (true≢false (sym y ∙ not-true new z)) }

  pub join_in : get_or b j 0 ≡ code → j / 8 < length t → (f : Bool) → f ≡ flag_of t j → f ≡ false → (t' : List ℕ) → t' ≡ raised t j → Joins b t t' code new
  join_in x l f ef z t' et = record {
    flags = enter_written b t code j e x t' et;
    fresh = λ _ seen ms. sym (met_says b seen t code j ms e x l) ∙ sym ef ∙ z;
  }

pub ruleset join_ways = (join_out, join_in, arith)

-- ---- `hold`

pub behind_none : (r : List ℕ) (h : Shape) (p : ℕ) (w : Walk) → w ≡ walk_from p → all_fit false (fields_at r h p) ≡ true → Behind r h p 0 w
behind_none r h p w e f = rw e (record { walks = from_walks r h p f; rest = sym (from_codes r h p) })

pub hold_clear : (b l t : List ℕ) (n : ℕ) → t ≡ zeros n → Met b (take 0 l) t
hold_clear b l t n e = rw e (met_none b n)

module _ (r : List ℕ) (h : Shape) (p y : ℕ) (w : Walk) (g : Behind r h p y w) (e : Option (ℕ × Walk)) (s : Steps r h w e) (code : ℕ) (on : Walk) (x : e ≡ Some (code, on)) where
  abbrev l : List ℕ
  l = codes_in (fields_at r h p)

  next : drop y l ≡ code ∷ codes_from r h on
  next = g.rest ∙ (rw x at s).0

  pub behind_more : Behind r h p (y + 1) on
  behind_more = record { walks = (rw x at s).1; rest = split_drop l y code (codes_from r h on) next }

  module _ (b t t' : List ℕ) (new v : Bool) (j : v ≡ true → Joins b t t' code new) (z : not v ≡ false) (ms : Met b (take y l) t) where
    joined : Joins b t t' code new
    joined = by_yes v j z

    pub hold_met : Met b (take (y + 1) l) t'
    hold_met = rw (split_take l y code (codes_from r h on) next) (met_more b (take y l) t t' code ms joined.flags)

    pub hold_apart : (from : ℕ) → new ≡ leb from y → Apart l from → Apart l y → Apart l (y + 1)
    hold_apart from en af ay =
        apart_more l from y code (codes_from r h on) next af ay (λ g. joined.fresh (en ∙ le-leb from y g) (take y l) ms)

pub ruleset hold_turn = (behind_none, behind_more, hold_clear, apart_none, arith)

-- ---- `all_once`

module _ (r : List ℕ) (h : Shape) (p x : ℕ) (w : Walk) (b : Behind r h p x w) (room : ℕ) (g : Gathered) (k : Gathers r h w room g) where
  pub all_over : Apart (codes_in (fields_at r h p)) x → g.count ≡ 0 → once_from r h p 0 ≡ Ok tt
  all_over a z =
      let l = codes_in (fields_at r h p) in
      apart_once r h p x a (omega (arith, length-drop x l, ap length (b.rest ∙ k.some z)))

  pub behind_gathered : Behind r h p (x + g.count) g.on
  behind_gathered = record {
    walks = k.walks;
    rest = sym (drop-drop g.count x (codes_in (fields_at r h p))) ∙ ap (drop g.count) b.rest ∙ sym k.rest;
  }

pub all_held : (l : List ℕ) (e : ℕ) (v : Bool) → (v ≡ true → Apart l e) → not v ≡ false → Apart l e
all_held l e v a z = by_yes v a z

pub ruleset all_turn = (all_over, behind_none, behind_gathered, all_held, apart_none, arith)
