-- A rule over the tuples of a field is what the walk over their bytes finds: one law for every rule that reads tuples. Assumes nothing.
use mathlib.Core.Path.{◌≡◌, refl, sym, ap, ◌∙◌}
use mathlib.Core.List.{List, [], ◌∷◌}
use mathlib.Core.Logic.{⊎_elim}
use mathlib.Core.Bool.{Bool, true, false}
use Prim.Native.Nat.{ℕ, ◌+◌, ◌≤◌, ◌<◌}
use native.Mathlib.Omega.{arith}
use lib.ListN.{length, drop}
use borrow.Author.Tests.{lt-ltb, le-ltb, ltb-true}
use Rattle.base.specs.Check.{Check, ok, bind}
use Rattle.base.specs.Lists.{each}
use Rattle.fields.specs.Values.{Val}
use Rattle.fields.specs.Content.{many}
use Rattle.fields.specs.Places.{ending_at}
use Rattle.forest.specs.Reader.{Read}
use Rattle.forest.specs.Rule.{all_taken}
use Rattle.forest.proofs.Numbers.{lt_or_le}
use Rattle.forest.proofs.ReaderLaws.{Alike, Agree, refused, came, read_alike, run_is}
use Rattle.forest.proofs.TupleReader.{Passing, passing, on_first, TupleRule, source, told, rule_reads, rule_bound}
use Rattle.tree.specs.Source.{two, past, numbered, closed, Spot, spot, tuples_in, run_at, remains}
use Rattle.tree.specs.Known.{Reach, there}
use Rattle.tree.specs.Verdict.{faulty_tuple}
use Rattle.tree.proofs.CountLaws.{reach_next}
use Rattle.tree.proofs.KnownLaws.{tuples_fall}
use Rattle.tree.proofs.TupleShape.{shape, values_at, Stands, stands, stands_none}

-- what a rule sees of the tuple at an offset is what the walk sees of its bytes; Holds: what is known of the tuples passed before an offset
pub record Sees {P T F B : Type 0} (d : TupleRule P T F B) (make : List Val → T) (Holds : P → ℕ → Type 0) (b : List ℕ) (whole : Bool) (h : P) (at : ℕ) : Type 0 where
  pub parent : d.parent (make (values_at b at)) ≡ two b (at + 4)
  pub right : d.right h (make (values_at b at)) ≡ numbered b whole at
  pub shuts : d.shuts (make (values_at b at)) ≡ closed b whole at
  pub place : d.place (d.keep (make (values_at b at)) h) ≡ d.place h + 1
  pub holds : Holds (d.keep (make (values_at b at)) h) (past b at)

module _ {P T F B : Type 0} (d : TupleRule P T F B) (make : List Val → T) (lo hi : ℕ) (b : List ℕ) (whole : Bool) (Holds : P → ℕ → Type 0)
    (sees : (h : P) (at : ℕ) → Stands lo hi b at → Reach b 0 at → Holds h at → Sees d make Holds b whole h at) where
  -- the tuples left at a state are those from the offset on, and what is known of the tuples passed holds there
  record Matches (s : Passing P T) (u : Spot) : Type 0 where
    left : s.left ≡ each make (many (shape lo hi) (drop u.offset b))
    standing : ending_at (shape lo hi) b u.offset ≡ 0
    reached : Reach b 0 u.offset
    placed : d.place s.past ≡ u.place
    holding : Holds s.past u.offset

  -- a tuple is left, or none
  left_more : (s : Passing P T) (u : Spot) → Matches s u → u.offset < length b
      → s.left ≡ make (values_at b u.offset) ∷ each make (many (shape lo hi) (drop (past b u.offset) b))
  unfolding each
  left_more s u m h = m.left ∙ ap (each make) (stands lo hi b u.offset h m.standing).found

  left_none : (s : Passing P T) (u : Spot) → Matches s u → length b ≤ u.offset → s.left ≡ []
  unfolding each
  left_none s u m h = m.left ∙ ap (each make) (stands_none lo hi b u.offset h)

  -- both see a tuple, or both none
  present : (s : Passing P T) (u : Spot) → Matches s u → (source d).here s ≡ (tuples_in b whole).here u
  present s u m =
      ⊎_elim
      (λ (h : u.offset < length b). ap (λ (ts : List T). on_first ts false (λ t us. true)) (left_more s u m h) ∙ sym (lt-ltb u.offset (length b) h))
      (λ (h : length b ≤ u.offset). ap (λ (ts : List T). on_first ts false (λ t us. true)) (left_none s u m h) ∙ sym (le-ltb u.offset (length b) h))
      (lt_or_le u.offset (length b))

  -- they see the same of it
  look : (s : Passing P T) (u : Spot) → Matches s u → (source d).here s ≡ true → Alike (source d) (tuples_in b whole) Matches s u
  look s u m h =
      let inside : u.offset < length b = ltb-true u.offset (length b) (sym (present s u m) ∙ h) in
      let st = stands lo hi b u.offset inside m.standing in
      let see = sees s.past u.offset st m.reached m.holding in
      let t : T = make (values_at b u.offset) in
      let more = left_more s u m inside in
      record {
        parents = ap (λ (ts : List T). on_first ts 0 (λ x us. d.parent x)) more ∙ see.parent;
        rights = ap (λ (ts : List T). on_first ts true (λ x us. d.right s.past x)) more ∙ see.right;
        shutting = ap (λ (ts : List T). on_first ts false (λ x us. d.shuts x)) more ∙ see.shuts;
        onward = rw more (record {
          left = refl;
          standing = st.behind;
          reached = reach_next b 0 u.offset m.reached;
          placed = see.place ∙ ap (λ (k : ℕ). k + 1) m.placed;
          holding = see.holds;
        });
      }

  -- ---- the rule over all tuples

  -- what the rule says where the run at the top ends
  top_end : {A : Type 0} (a : A) (s : Passing P T) (u : Spot) → Matches s u
      → faulty_tuple (all_taken a (d.place s.past) s.left) ≡ remains (length b) (ok u)
  unfolding faulty_tuple all_taken remains
  top_end a s u m =
      ⊎_elim
      (λ (h : u.offset < length b). rw (left_more s u m h, lt-ltb u.offset (length b) h) m.placed)
      (λ (h : length b ≤ u.offset). rw (left_none s u m h, le-ltb u.offset (length b) h))
      (lt_or_le u.offset (length b))

  -- what it says of two readings that came to the same
  top_agree : {A : Type 0} (found : B → A) (x : Check (Read (Passing P T) F)) (y : Check (Read Spot (Unit {0}))) → Agree Matches x y
      → faulty_tuple (bind (told d x) (λ r. all_taken (found r) (d.place (d.past_of r)) (d.left_of r))) ≡ remains (length b) (bind y (λ r. ok r.end))
  unfolding bind faulty_tuple remains
  top_agree found x y refused = refl
  top_agree found x y (came {r = r} {q = q} m) = rw (d.past_as r, d.left_as r) (top_end (found (d.in_words r)) r.end q.end m)

  -- so the place of the first tuple that breaks the rule is what the walk over the bytes finds
  pub rule_walk : {A : Type 0} (h : P) (found : B → A) (ts : List T) → ts ≡ each make (many (shape lo hi) b) → Holds h 0 → d.place h ≡ 1 → ending_at (shape lo hi) b 0 ≡ 0
      → faulty_tuple (bind (d.up_to (length ts) h 0 false ts) (λ r. all_taken (found r) (d.place (d.past_of r)) (d.left_of r))) ≡ remains (length b) (run_at b whole 0 0 1 false)
  unfolding run_at
  rule_walk h found ts e i p z =
      let n : ℕ = length ts + length b in
      let start : Matches (passing h ts) (spot 0 1) = record { left = e; standing = z; reached = there refl; placed = p; holding = i } in
      ap (λ (c : Check B). faulty_tuple (bind c (λ r. all_taken (found r) (d.place (d.past_of r)) (d.left_of r))))
      (rule_bound d (length ts) n h 0 false ts (omega arith) (omega arith) ∙ rule_reads d n h 0 false ts)
      ∙ top_agree found _ _ (read_alike (source d) (tuples_in b whole) Matches present (λ s u m. m.placed) look n 0 false (passing h ts) (spot 0 1) start)
      ∙ ap (λ (c : Check (Read Spot (Unit {0}))). remains (length b) (bind c (λ r. ok r.end))) (run_is (tuples_in b whole) (tuples_fall b whole) n 0 false (spot 0 1) (omega arith))
