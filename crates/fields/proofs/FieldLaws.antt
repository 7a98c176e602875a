-- A whole field: what it means that its head and then its tuples fill it, and what their count means. Assumes nothing.
use Prim.Native.Nat.{ℕ, ◌+◌, ◌≤◌, ◌<◌}
use mathlib.Core.Path.{◌≡◌, refl, sym, ap, ◌∙◌}
use mathlib.Core.Bool.{Bool, true, false, true≢false}
use mathlib.Core.Option.{Option, none, some}
use mathlib.Core.List.{List, [], ◌∷◌}
use native.Mathlib.Nat.{zero-add}
use native.Mathlib.Omega.{arith}
use lib.ListN.{length, drop, length-drop}
use lib.Dec.{eqb}
use borrow.Author.Tests.{eq-eqb, eqb-true}
use Rattle.std.specs.Prelude.{Ok, Err}
use Rattle.base.specs.Choice.{pick}
use Rattle.base.specs.Walk.{Got, before}
use Rattle.base.proofs.OptionLaws.{some_inj}
use Rattle.fields.specs.Sizes.{sizes, on_size, amount}
use Rattle.fields.specs.Values.{Val, values}
use Rattle.fields.specs.Content.{tuples, many, tallied, tally, tally_field, is_whole, fill, content}
use Rattle.fields.specs.Places.{ending_at}
use Rattle.fields.specs.declared.Sub.{Sub}
use Rattle.fields.proofs.SizeLaws.{all_num, widths, sizes_bound, num_widths}
use Rattle.fields.proofs.TupleLaws.{split, tuples_end, tuples_on, first_tuple}

-- ---- what it means that subfields fill a field

-- the head takes some bytes, and tuples fill the others
pub record Filled (h t : List Sub) (b : List ℕ) : Type 0 where
  pub bytes : ℕ
  pub taken : sizes h b ≡ some bytes
  pub inside : bytes ≤ length b
  pub rest : ending_at t b bytes ≡ 0
  pub found : (content h t b).tuples ≡ many t (drop bytes b)

whole_ending : (k : ℕ) (g : Got (List Val)) → is_whole (tallied k g) ≡ true → g.ending ≡ 0
whole_ending k g e = go (eqb g.ending 0) refl e
  where
    go : (u : Bool) → eqb g.ending 0 ≡ u → is_whole (pick u (Ok (k + length g.items)) (Err (k + length g.items + 1))) ≡ true → g.ending ≡ 0
    go true q z = eqb-true g.ending 0 q
    go false q z = absurd (true≢false (sym z))

pub filled : (h t : List Sub) (b : List ℕ) → fill h t b ≡ true → Filled h t b
unfolding fill tally_field tally ending_at content
filled h t b e = go (sizes h b) refl e
  where
    go : (o : Option ℕ) → sizes h b ≡ o → is_whole (on_size o (Err 0) (λ n. tally t (drop n b) 0)) ≡ true → Filled h t b
    go none q z = absurd (true≢false (sym z))
    go (some n) q z = record {
      bytes = n;
      taken = q;
      inside = sizes_bound h b n q;
      rest = whole_ending 0 (tuples t (drop n b)) z;
      found = ap (λ (o : Option ℕ). many t (drop (amount o) b)) q;
    }

pub field_some : (h t : List Sub) (b : List ℕ) (n : ℕ) → sizes h b ≡ some n → tally_field h t b ≡ tally t (drop n b) 0
unfolding tally_field
field_some h t b n e = rw e

module _ (h t : List Sub) (b : List ℕ) where
  -- and the other way
  pub fills : (n : ℕ) → sizes h b ≡ some n → ending_at t b n ≡ 0 → fill h t b ≡ true
  unfolding fill ending_at tally
  fills n q z = ap is_whole (field_some h t b n q) ∙ simp (eq-eqb (tuples t (drop n b)).ending 0 z)

  -- the count is that of the tuples
  pub fill_count : fill h t b ≡ true → tally_field h t b ≡ Ok (length (content h t b).tuples)
  unfolding ending_at tally many
  fill_count e =
      let r = filled h t b e in
      field_some h t b r.bytes r.taken
      ∙ simp (eq-eqb (tuples t (drop r.bytes b)).ending 0 r.rest)
      (ap Ok (zero-add (length (many t (drop r.bytes b))) ∙ ap length (sym r.found)))

  pub count_fill : (n : ℕ) → tally_field h t b ≡ Ok n → fill h t b ≡ true
  unfolding fill
  count_fill n e = ap is_whole e

  pub count_is : (n : ℕ) → tally_field h t b ≡ Ok n → n ≡ length (content h t b).tuples
  count_is n e = let q : tally_field h t b ≡ Ok (length (content h t b).tuples) = fill_count (count_fill n e) in cc

-- ---- heads of numbers, and fields without a head or without tuples

-- a head of numbers has a constant length
pub head_even : (h t : List Sub) (b : List ℕ) → all_num h ≡ true → fill h t b ≡ true
    → (widths h ≤ length b) × (ending_at t b (widths h) ≡ 0) × ((content h t b).tuples ≡ many t (drop (widths h) b))
head_even h t b i e =
    let r = filled h t b e in
    let n : r.bytes ≡ widths h = num_widths h b r.bytes i r.taken in
    (rw n at r.inside, rw n at r.rest, rw n at r.found)

-- a list
pub fill_list : (t : List Sub) (b : List ℕ) → fill [] t b ≡ true → ending_at t b 0 ≡ 0
fill_list t b e = (head_even [] t b refl e).1

pub list_fill : (t : List Sub) (b : List ℕ) → ending_at t b 0 ≡ 0 → fill [] t b ≡ true
unfolding sizes
list_fill t b z = fills [] t b 0 refl z

none_taken : (n : ℕ) (l : List ℕ) → sizes [] l ≡ some n → 0 < n → ⊥
unfolding sizes
none_taken n l q pos = let z : 0 ≡ n = some_inj q in omega arith

-- a head alone fills the field
pub fill_head : (h : List Sub) (b : List ℕ) → fill h [] b ≡ true → sizes h b ≡ some (length b)
unfolding ending_at
fill_head h b e =
    let r = filled h [] b e in
    let n : r.bytes ≤ length b = r.inside in
    split (length (drop r.bytes b)) 0
    (λ g. r.taken ∙ ap some (omega (arith, length-drop r.bytes b)))
    (λ g. let f = first_tuple [] (drop r.bytes b) g r.rest in absurd (none_taken f.bytes (drop r.bytes b) f.taken f.some_bytes))

pub head_length_lem : (h : List Sub) (b : List ℕ) → all_num h ≡ true → fill h [] b ≡ true → length b ≡ widths h
head_length_lem h b i e = num_widths h b (length b) i (fill_head h b e)

-- the same subfields as a list: one tuple
pub head_tuple : (t : List Sub) (b : List ℕ) → 0 < length b → fill t [] b ≡ true → tuples t b ≡ record { items = values t b ∷ []; ending = 0 }
head_tuple t b h e =
    tuples_on t b h (length b) (fill_head t b e) h ∙ ap (before (values t b)) (tuples_end t (drop (length b) b) (omega (arith, length-drop (length b) b)))
