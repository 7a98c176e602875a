-- Laws of the pass over a result's records, part by part. Assumes nothing.
use Prim.Native.Nat.{ℕ, ◌+◌, ◌^◌, ◌≤◌, ◌<◌}
use mathlib.Core.Path.{◌≡◌, refl, sym, ap, ◌∙◌, subst}
use mathlib.Core.Bool.{Bool, true, false}
use mathlib.Core.List.{List, ◌∷◌, ◌++◌}
use native.Mathlib.Omega.{arith}
use borrow.Author.Tests.{leb-true, leb-false}
use lib.Dec.{leb}
use lib.ListN.{length, drop, take, length-take, length-append}
use lib.Seq.{drop_at}
use Rattle.std.specs.Prelude.{Result, Ok, Err}
use Rattle.base.specs.Check.{Passed, ok, no, pass}
use Rattle.memory.specs.Wrote.{Wrote}
use Rattle.memory.proofs.PutLaws.{length_put, put_is}
use Rattle.skeleton.specs.File.{Field, records_from}
use Rattle.skeleton.specs.Emit.{emit}
use Rattle.rules.specs.Record.{Rec}
use Rattle.rules.specs.Outcome.{done}
use Rattle.rules.specs.Written.{written_fields, field_width}
use Rattle.sequence.proofs.Tests.{by_bool}
use Rattle.updates.specs.Streamed.{result_records, result_references}
use Rattle.stock.specs.Stock.{stock_from}
use Rattle.version.specs.Areas.{flag_area}
use Rattle.sorting.specs.Indices.{Spared, Beyond}
use Rattle.sorting.specs.declared.limits.Limits.{Limits}
use Rattle.sorting.proofs.IndicesLaws.{beyond_same, beyond_then, spared_on}
use Rattle.composing.specs.Emitted.{Emitted}
use Rattle.composing.specs.Made.{MadeOf}
use Rattle.composing.proofs.ComposingLaws.{composing_loose}
use Rattle.composing.proofs.EmittedLaws.{composing_emitted}
use Rattle.lasting.specs.Whole.{Whole}
use Rattle.lasting.specs.Step.{Stepped}
use Rattle.lasting.proofs.WholeLaws.{whole_settled}
use Rattle.result.specs.Pass.{Within, pass_after, pass_from, links_of, Made, Passing, Few, Walked, Sparing}
use Rattle.lasting.specs.declared.Step.{Step}
use Rattle.lasting.specs.declared.Step.TheVariants.{Nothing, Loose, One}
use Rattle.result.specs.declared.pass.Progress.{Progress}

-- ---- `after`

module _ (g : Progress) where
  pub within_number : Within 4294967296 g → g.made + 4 < 2 ^ 64
  unfolding Within
  within_number i = omega (arith, i.0)

  pub within_count : Within 4294967296 g → g.made + 1 < 2 ^ 64
  unfolding Within
  within_count i = omega (arith, i.0)

  -- the place of the next record is a word
  pub within_place : Within 4294967296 g → g.to ≤ 4611686018427387904
  unfolding Within
  within_place i = omega (arith, i.0, i.1)

  module _ (s : Step) (next : ℕ) where
    pub after_nothing : s ≡ Nothing → Ok (record { to = g.to; made = g.made; next = next }) ≡ pass_after s g next
    unfolding pass_after
    after_nothing e = rw e

    pub after_loose : s ≡ Loose → Err (g.made + 4) ≡ pass_after s g next
    unfolding pass_after
    after_loose e = rw e

    pub after_one : (to : ℕ) → s ≡ One to → Ok (record { to = to; made = g.made + 1; next = next }) ≡ pass_after s g next
    unfolding pass_after
    after_one to e = rw e

pub ruleset after_ways = (within_number, within_count, after_nothing, after_loose, after_one)

-- ---- to go on from another place

module _ (s : Result Progress ℕ) (next : ℕ) where
  pub from_loose : (k : ℕ) → s ≡ Err k → Err k ≡ pass_from s next
  unfolding pass_from
  from_loose k e = rw e

  pub from_went : (g : Progress) → s ≡ Ok g → Ok (record { to = g.to; made = g.made; next = next }) ≡ pass_from s next
  unfolding pass_from
  from_went g e = rw e

-- ---- the bytes behind what is written

pub sparing_none : (g : Progress) (o : List ℕ) → Sparing g o o (Ok g)
unfolding Sparing
sparing_none g o = (omega arith, beyond_same g.to o, λ h. refl)

pub sparing_then : (g g2 : Progress) (o o2 o3 : List ℕ) → Sparing g o o2 (Ok g2) → (r : Result Progress ℕ) → Sparing g2 o2 o3 r → Sparing g o o3 r
unfolding Sparing
sparing_then g g2 o o2 o3 a (Err k) b = tt
sparing_then g g2 o o2 o3 a (Ok g3) b =
    let x = a.0 in
    let y = b.0 in
    let l = a.1.long in
    (omega arith, beyond_then g2.to g3.to o o2 o3 y a.1 b.1, λ h. b.2 (omega arith) ∙ a.2 h)

-- so are the indices that stand there
pub sparing_spared : (d : List ℕ) (ds : ℕ) (u : List ℕ) (us : ℕ) (lim : Limits) (g h : Progress) (o o2 : List ℕ) → Sparing g o o2 (Ok h)
    → Spared d ds u us lim g.to o → Spared d ds u us lim h.to o2
unfolding Sparing
sparing_spared d ds u us lim g h o o2 a s = spared_on d ds u us lim g.to h.to o o2 a.0 a.1 a.2 s

-- a record is written up to where the next one begins
wrote_beyond : (to : ℕ) (ys before : List ℕ) (n : ℕ) (out : List ℕ) → n ≤ length before → Wrote to ys before n out → Beyond n before out
wrote_beyond to ys before n out h w =
    let e = w.next in
    record {
      long = ap length w.is ∙ length_put to ys before;
      same = ap (drop n) (w.is ∙ put_is to ys before (omega arith))
          ∙ drop_at (take to before ++ ys) (drop (to + length ys) before) n (simp (length-append, length-take) (omega arith))
          ∙ ap (λ (k : ℕ). drop k before) (sym e);
    }

emitted_beyond : (fs : List Field) (to : ℕ) (before : List ℕ) (n : ℕ) (out : List ℕ) → Emitted fs to before n out → Beyond n before out
emitted_beyond fs to before n out e =
    by_bool (leb n (length before))
    (λ h. let l = leb-true n (length before) h in wrote_beyond to (emit field_width field_width false fs) before n out l (e.wrote l))
    (λ h. subst (Beyond n before) (sym (e.kept (leb-false n (length before) h))) (beyond_same n before))

module _ (d : List ℕ) (ds : ℕ) (u : List ℕ) (us : ℕ) where
  -- a walk says nothing of the place
  pub walked_from : (left later : List Rec) (most : ℕ) (g : Progress) (o o' : List ℕ) (s : Result Progress ℕ) (next : ℕ)
      → Walked d ds u us left later most g o o' s → Walked d ds u us left later most g o o' (pass_from s next)
  unfolding pass_from Passing Few Within Sparing
  walked_from left later most g o o' (Err k) next w = record { passing = w.passing; few = tt; spares = tt }
  walked_from left later most g o o' (Ok h) next w = record { passing = w.passing; few = w.few; spares = w.spares }

  -- ---- one record

  module _ (t : List ℕ) (n : ℕ) (map w : List ℕ) (y : Whole d ds t n map u us w) (rs : List Rec) (g : Progress) (i : Within 4294967296 g) (o o' : List ℕ) (next : ℕ) (left : List Rec) where
    -- what is sure is so
    sure_links : (r : Rec) (at : ℕ) (first : List ℕ) → Made d ds u us (r ∷ left) at g.made g.to first o → result_references (stock_from d ds) (records_from u us).items ≡ done tt
        → (a : Passed) → links_of d ds u us r ≡ a → links_of d ds u us r ≡ pass
    unfolding result_references
    sure_links r at first v c (ok t) e = e
    sure_links r at first v c (no x) e =
        absurd
        (let y = sym c ∙ composing_loose (links_of d ds u us) (result_records (stock_from d ds) (records_from u us).items) at first g.made g.to o r left v x e in
        let z : ◌≡◌ {A = ℕ} 0 1 = cc in omega arith)

    pub turned_by : (sure : Bool) → (sure ≡ true → result_references (stock_from d ds) (records_from u us).items ≡ done tt)
        → (s : Step) → Stepped d ds u us (flag_area w) sure rs g.to o o' s → Walked d ds u us (rs ++ left) left 1 g o o' (pass_after s g next)
    unfolding Stepped Passing Few Within pass_after MadeOf result_references Sparing
    turned_by sure clear Nothing h = record {
      passing = λ at first z. let v : Made d ds u us left at g.made g.to first o = rw h.0 at z in rw h.1 v;
      few = (omega arith, i.1);
      spares = (omega arith, subst (Beyond g.to o) (sym h.1) (beyond_same g.to o), λ l. h.1);
    }
    turned_by sure clear Loose h = record {
      passing = λ at first z.
          let v : Made d ds u us (h.0 ∷ left) at g.made g.to first o = rw h.1 at z in
          let x = h.2 (stock_from d ds) (whole_settled d ds t n map u us w y) in
          (x.0, x.1, composing_loose (links_of d ds u us) (result_records (stock_from d ds) (records_from u us).items) at first g.made g.to o h.0 left v x.0 x.2);
      few = tt;
      spares = tt;
    }
    turned_by sure clear (One to) h = record {
      passing = λ at first z.
          let v : Made d ds u us (h.0 ∷ left) at g.made g.to first o = rw h.1 at z in
          let links : links_of d ds u us h.0 ≡ pass = by_bool sure
          (λ e. sure_links h.0 at first v (clear e) (links_of d ds u us h.0) refl)
          (λ e. h.2.0 e (stock_from d ds) (whole_settled d ds t n map u us w y)) in
          composing_emitted (links_of d ds u us) (result_records (stock_from d ds) (records_from u us).items) at first g.made g.to o h.0 left v
          links to o' h.2.1;
      few = (omega arith, let a = h.3 in let b = i.1 in omega arith);
      spares = (let e = h.2.1.next in omega arith, emitted_beyond (written_fields h.0) g.to o to o' h.2.1, λ l. h.2.1.kept (let e = h.2.1.next in omega arith));
    }

  -- ---- one part after another

  pub passing_then : (a b c : List Rec) (g g2 : Progress) (o o2 o3 : List ℕ) → Passing d ds u us a b g o o2 (Ok g2)
      → (r : Result Progress ℕ) → Passing d ds u us b c g2 o2 o3 r → Passing d ds u us a c g o o3 r
  unfolding Passing
  passing_then a b c g g2 o o2 o3 f (Err k) h = λ at first z. h at first (f at first z)
  passing_then a b c g g2 o o2 o3 f (Ok g3) h = λ at first z. h at first (f at first z)
