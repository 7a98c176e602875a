-- Laws of the pass over one kind of a result's records, and over all four. Assumes nothing.
use Prim.Native.Nat.{ℕ, suc, ◌+◌, ◌-◌, ◌*◌, ◌≤◌, ◌<◌}
use mathlib.Core.Path.{◌≡◌, refl, sym, ap, subst, ◌∙◌}
use mathlib.Core.Bool.{Bool, true, false, true≢false}
use mathlib.Core.List.{List}
use native.Mathlib.Omega.{arith}
use native.Mathlib.Numerals.{add-one}
use lib.ListN.{length}
use Rattle.std.specs.Prelude.{Result, Ok, Err}
use Rattle.memory.specs.Put.{put}
use Rattle.skeleton.specs.File.{records_from}
use Rattle.rules.specs.Record.{Rec}
use Rattle.updates.specs.Streamed.{result_records, result_references}
use Rattle.stock.specs.Stock.{stock_from}
use Rattle.composing.specs.Composing.{Complete}
use Rattle.composing.proofs.ComposingLaws.{left_all, left_kind, left_end, composing_start, composing_same, composing_over}
use Rattle.result.specs.Composed.{said_by, composed_of, ComposedBy, Again}
use Rattle.result.specs.declared.Composed.{Composed}
use Rattle.sorting.specs.Indices.{Indices, Spared}
use Rattle.sorting.specs.declared.limits.Limits.{Limits}
use Rattle.sorting.proofs.IndicesLaws.{spared_start}
use Rattle.lasting.specs.Whole.{Whole}
use Rattle.lasting.proofs.WholeLaws.{whole_kept}
use Rattle.result.specs.Pass.{Within, pass_from, kinds_left, new_left, links_of, Made, Passing, Few, Walked, Sparing, Clear}
use Rattle.result.specs.Side.{file_of, Reached, StandsBy, Ended, Stands, side_left, side_behind}
use Rattle.result.specs.declared.pass.Progress.{Progress}
use Rattle.result.proofs.RestLaws.{rest_bytes_lem, rest_long}
use Rattle.result.proofs.ComposedLaws.{said_loose, said_whole, loose_said, whole_linked, whole_long, whole_counted}
use Rattle.result.proofs.PassLaws.{walked_from, passing_then, sparing_none, sparing_then, sparing_spared}
use Rattle.result.proofs.WalkLaws.{old_start, old_later, old_from, new_start}

-- ---- one kind

pub within_more : (g : Progress) → Within 1073741824 g → Within 2147483648 g
unfolding Within
within_more g i = let c = i.0 in (omega arith, i.1)

-- either side's file
pub file_old : (d u : List ℕ) → d ≡ file_of true d u
unfolding file_of
file_old d u = refl

pub file_new : (d u : List ℕ) → u ≡ file_of false d u
unfolding file_of
file_new d u = refl

-- and its first record
pub stands_old : (d : List ℕ) (ds : ℕ) (u : List ℕ) (us q p : ℕ) → Reached d ds q p → Stands d ds u us q true p
unfolding Stands
stands_old d ds u us q p g = old_later d ds q p g

pub stands_new : (d : List ℕ) (ds : ℕ) (t : List ℕ) (n : ℕ) (map u : List ℕ) (us : ℕ) (w : List ℕ) (y : Whole d ds t n map u us w) (q : ℕ) → Stands d ds u us q false us
unfolding Stands
stands_new d ds t n map u us w y q = new_start d ds t n map u us w y

module _ (d : List ℕ) (ds : ℕ) (u : List ℕ) (us : ℕ) where
  few_then : (g h : Progress) → Within (g.made + 16777216) h → (r : Result Progress ℕ) → Few d ds u us 16777216 h r → Few d ds u us 33554432 g r
  unfolding Few Within
  few_then g h i (Err k) f = tt
  few_then g h i (Ok h3) f = let a = i.0 in let b = f.0 in (omega arith, f.1)

  reached_from : (q : ℕ) (s : Result Progress ℕ) (p : ℕ) → Reached d ds q p → StandsBy (Reached d ds q) (pass_from s p)
  unfolding StandsBy pass_from
  reached_from q (Err k) p g = tt
  reached_from q (Ok h) p g = g

  module _ (q : ℕ) (l : q ≤ 4) (g : Progress) (z : Reached d ds q g.next) (w o w2 o2 : List ℕ) (r : Result Progress ℕ)
      (v : Ended d ds u us (side_left d ds u us q true g.next) (side_behind d ds u us q true) 16777216 (Stands d ds u us q true) g w o w2 o2 r) where
    first : Passing d ds u us (kinds_left d ds u us q) (new_left d ds u us q us) g o o2 r
    unfolding side_left side_behind
    first =
        subst (λ (a : List Rec). Passing d ds u us a (new_left d ds u us q us) g o o2 r)
        (sym (old_from d ds q g.next z u us) ∙ sym (left_kind (stock_from d ds) (records_from u us).items q l)) v.walked.passing

    pub kind_whole : (t : List ℕ) (n : ℕ) (map : List ℕ) → Whole d ds t n map u us w → length w2 ≡ length w → Whole d ds t n map u us w2
    kind_whole t n map y k = whole_kept d ds t n map u us w y w2 v.flags k

    pub kind_loose : (k : ℕ) → r ≡ Err k
        → Ended d ds u us (kinds_left d ds u us q) (kinds_left d ds u us (suc q)) 33554432 (Reached d ds (suc q)) g w o w2 o2 (Err k)
    unfolding Passing Few StandsBy Sparing
    kind_loose k x = record {
      walked = record { passing = subst (λ (a : Result Progress ℕ). Passing d ds u us (kinds_left d ds u us q) (new_left d ds u us q us) g o o2 a) x first; few = tt; spares = tt };
      stands = tt;
      flags = v.flags;
    }

    module _ (h : Progress) (x : r ≡ Ok h) where
      few_first : Within (g.made + 16777216) h
      unfolding Few
      few_first = subst (λ (a : Result Progress ℕ). Few d ds u us 16777216 g a) x v.walked.few

      reached : Reached d ds (suc q) h.next
      unfolding StandsBy Stands
      reached = subst (λ (a : Result Progress ℕ). StandsBy (Stands d ds u us q true) a) x v.stands

      pub kind_within : Within 1073741824 g → Within 2147483648 (record { to = h.to; made = h.made; next = us })
      unfolding Within
      kind_within i = let a = few_first.0 in let b = i.0 in (omega arith, few_first.1)

      spares : Sparing g o o2 (Ok h)
      spares = subst (λ (a : Result Progress ℕ). Sparing g o o2 a) x v.walked.spares

      -- the indices that are left
      pub kind_spared : (lim : Limits) → Spared d ds u us lim g.to o → Spared d ds u us lim h.to o2
      kind_spared lim i = sparing_spared d ds u us lim g h o o2 spares i

      module _ (w3 o3 : List ℕ) (s : Result Progress ℕ)
          (y : Ended d ds u us (side_left d ds u us q false us) (side_behind d ds u us q false) 16777216 (Stands d ds u us q false) (record { to = h.to; made = h.made; next = us }) w2 o2 w3 o3 s) where
        -- the place in the dataset is put by
        aside : Passing d ds u us (kinds_left d ds u us q) (new_left d ds u us q us) g o o2 (Ok (record { to = h.to; made = h.made; next = us }))
        unfolding Passing
        aside = subst (λ (a : Result Progress ℕ). Passing d ds u us (kinds_left d ds u us q) (new_left d ds u us q us) g o o2 a) x first

        second : Walked d ds u us (kinds_left d ds u us q) (kinds_left d ds u us (suc q)) 33554432 g o o3 s
        unfolding side_left side_behind Sparing
        second = record {
          passing = passing_then d ds u us (kinds_left d ds u us q) (new_left d ds u us q us) (kinds_left d ds u us (suc q)) g (record { to = h.to; made = h.made; next = us }) o o2 o3
              aside s y.walked.passing;
          few = few_then g (record { to = h.to; made = h.made; next = us }) (unfold Within in few_first) s y.walked.few;
          spares = sparing_then g (record { to = h.to; made = h.made; next = us }) o o2 o3 spares s y.walked.spares;
        }

        pub kind_on : (p : Result Progress ℕ) → p ≡ pass_from s h.next
            → Ended d ds u us (kinds_left d ds u us q) (kinds_left d ds u us (suc q)) 33554432 (Reached d ds (suc q)) g w o w3 o3 p
        kind_on p e =
            subst (λ (a : Result Progress ℕ). Ended d ds u us (kinds_left d ds u us q) (kinds_left d ds u us (suc q)) 33554432 (Reached d ds (suc q)) g w o w3 o3 a) (sym e)
            (record {
              walked = walked_from d ds u us (kinds_left d ds u us q) (kinds_left d ds u us (suc q)) 33554432 g o o3 s h.next second;
              stands = reached_from (suc q) s h.next reached;
              flags = y.flags ∙ v.flags;
            })

  -- ---- all of them

  -- the kinds before the one with place q were made
  pub record Kinds (t : List ℕ) (n : ℕ) (map : List ℕ) (q : ℕ) (g : Progress) (at : ℕ) (before w out : List ℕ) : Type 0 where
    pub passing : Passing d ds u us (kinds_left d ds u us 1) (kinds_left d ds u us q) (record { to = at; made = 0; next = ds }) before out (Ok g)
    pub reached : Reached d ds q g.next
    pub whole : Whole d ds t n map u us w
    pub place : q ≤ 5
    pub few : g.made ≤ 33554432 * q
    pub room : g.to ≤ 33854429 + 99999 * g.made
    pub spares : Sparing (record { to = at; made = 0; next = ds }) before out (Ok g)

  module _ (t : List ℕ) (n : ℕ) (map : List ℕ) (at : ℕ) where
    pub kinds_start : at ≤ 33854429 → (o w : List ℕ) → Whole d ds t n map u us w → Kinds t n map 1 (record { to = at; made = 0; next = ds }) at o w o
    unfolding Passing
    kinds_start h o w y = record {
      passing = λ start first z. z;
      reached = old_start d ds y.laid.sound y.ready.stock;
      whole = y;
      place = omega arith;
      few = omega arith;
      room = omega arith;
      spares = sparing_none (record { to = at; made = 0; next = ds }) o;
    }

    module _ (q : ℕ) (g : Progress) (before w out : List ℕ) (k : Kinds t n map q g at before w out) where
      -- the indices that are left
      pub kinds_spared : (lim : Limits) → (lim.dry ≡ true → length before < at) → Indices d ds u us lim before → Spared d ds u us lim g.to out
      kinds_spared lim x i = sparing_spared d ds u us lim (record { to = at; made = 0; next = ds }) g before out k.spares (spared_start d ds u us lim at before x i)

      -- before the first record
      none_made : Made d ds u us (kinds_left d ds u us 1) at 0 at before before
      none_made =
          composing_same (links_of d ds u us) (result_records (stock_from d ds) (records_from u us).items) at before 0 at before _ _
          (sym (left_all (stock_from d ds) (records_from u us).items))
          (composing_start (links_of d ds u us) (result_records (stock_from d ds) (records_from u us).items) at before)

      -- from behind the end of the output on nothing was written
      spares_kept : length before < at → out ≡ before
      unfolding Sparing
      spares_kept l = k.spares.2 l

      -- behind the last kind
      pub kinds_over : 5 ≤ q → ComposedBy (stock_from d ds) (records_from u us).items at before (Ok (record { length = g.to; count = g.made })) out
      unfolding Passing result_references
      kinds_over h =
          let all : Complete (links_of d ds u us) (result_records (stock_from d ds) (records_from u us).items) at g.made g.to before out
          = composing_over (links_of d ds u us) (result_records (stock_from d ds) (records_from u us).items) at before g.made g.to out
          (composing_same (links_of d ds u us) (result_records (stock_from d ds) (records_from u us).items) at before g.made g.to out _ _
          (left_end (stock_from d ds) (records_from u us).items q (let p = k.place in omega arith)) (k.passing at before none_made)) in
          record {
            said = said_whole _ _ at (record { length = g.to; count = g.made }) all.passed (all.long ∙ ap (λ (n : ℕ). at + n) (rest_long (stock_from d ds) (records_from u us).items)) all.count;
            stands = λ c e s.
                let z : c.length ≡ g.to = cc in
                (all.wrote (omega arith)).is ∙ ap (λ (b : List ℕ). put at b before) (rest_bytes_lem (stock_from d ds) (records_from u us).items);
            kept = λ c e l. spares_kept l;
          }

      pub kinds_again : (r : Result Composed ℕ) → Again u us w r
      kinds_again r = record { flags = λ c e. k.whole.flags }

      module _ (l : q < 5) where
        pub kinds_within : Within 1073741824 g
        unfolding Within
        kinds_within = let f = k.few in (omega arith, k.room)

        module _ (w2 out2 : List ℕ) (r : Result Progress ℕ)
            (v : Ended d ds u us (kinds_left d ds u us q) (kinds_left d ds u us (suc q)) 33554432 (Reached d ds (suc q)) g w out w2 out2 r) where
          on : Passing d ds u us (kinds_left d ds u us 1) (kinds_left d ds u us (suc q)) (record { to = at; made = 0; next = ds }) before out2 r
          on = passing_then d ds u us (kinds_left d ds u us 1) (kinds_left d ds u us q) (kinds_left d ds u us (suc q)) (record { to = at; made = 0; next = ds }) g before out out2 k.passing r v.walked.passing

          pub kinds_loose : (i : ℕ) → r ≡ Err i → ComposedBy (stock_from d ds) (records_from u us).items at before (Err i) out2
          unfolding Passing
          kinds_loose i x =
              let f : Passing d ds u us (kinds_left d ds u us 1) (kinds_left d ds u us (suc q)) (record { to = at; made = 0; next = ds }) before out2 (Err i)
              = subst (λ (a : Result Progress ℕ). Passing d ds u us (kinds_left d ds u us 1) (kinds_left d ds u us (suc q)) (record { to = at; made = 0; next = ds }) before out2 a) x on in
              let y = f at before none_made in
              record {
                said = said_loose _ _ at i y.0 y.1 y.2;
                stands = λ c e. absurd (let z : ◌≡◌ {A = ℕ} 0 1 = cc in omega arith);
                kept = λ c e. absurd (let z : ◌≡◌ {A = ℕ} 0 1 = cc in omega arith);
              }

          pub kinds_next : (h : Progress) → r ≡ Ok h → length w2 ≡ length w → Kinds t n map (q + 1) h at before w2 out2
          unfolding Few Within StandsBy
          kinds_next h x s =
              let f : Few d ds u us 33554432 g (Ok h) = subst (λ (a : Result Progress ℕ). Few d ds u us 33554432 g a) x v.walked.few in
              let z : suc q ≡ q + 1 = sym (add-one q) in
              record {
                passing = subst (λ (m : ℕ). Passing d ds u us (kinds_left d ds u us 1) (kinds_left d ds u us m) (record { to = at; made = 0; next = ds }) before out2 (Ok h)) z
                    (subst (λ (a : Result Progress ℕ). Passing d ds u us (kinds_left d ds u us 1) (kinds_left d ds u us (suc q)) (record { to = at; made = 0; next = ds }) before out2 a) x on);
                reached = subst (λ (m : ℕ). Reached d ds m h.next) z (subst (λ (a : Result Progress ℕ). StandsBy (Reached d ds (suc q)) a) x v.stands);
                whole = whole_kept d ds t n map u us w k.whole w2 v.flags s;
                place = omega arith;
                few = let a = k.few in let b = f.0 in omega arith;
                room = f.1;
                spares = sparing_then (record { to = at; made = 0; next = ds }) g before out out2 k.spares (Ok h) (subst (λ (a : Result Progress ℕ). Sparing g out out2 a) x v.walked.spares);
              }

-- ---- one pass, or two

-- a refusal leaves no pass to come
pub loose_again : (u : List ℕ) (us : ℕ) (w : List ℕ) (k : ℕ) → Again u us w (Err k)
loose_again u us w k = record { flags = λ c e. absurd (let z : ◌≡◌ {A = ℕ} 0 1 = cc in omega arith) }

-- the indices are not told by what the pass is
pub indices_as : (d : List ℕ) (ds : ℕ) (u : List ℕ) (us : ℕ) (lim : Limits) (dry sure : Bool) (out : List ℕ) → Indices d ds u us lim out
    → Indices d ds u us (record { old = lim.old; new = lim.new; dry = dry; sure = sure }) out
indices_as d ds u us lim dry sure out i = record { runs = i.runs; inside = i.inside; old = i.old; new = i.new }

-- a pass that is not sure
pub clear_not : (d : List ℕ) (ds : ℕ) (u : List ℕ) (us : ℕ) (lim : Limits) → lim.sure ≡ false → Clear d ds u us lim
unfolding Clear
clear_not d ds u us lim e = λ h. absurd (true≢false (sym h ∙ e))

-- ---- the dry pass was made, from behind the end of the output o

module _ (d : List ℕ) (ds : ℕ) (u : List ℕ) (us at : ℕ) (o o₂ : List ℕ) (room : length o < 33554432) (r : Result Composed ℕ)
    (c : ComposedBy (stock_from d ds) (records_from u us).items (at + 33554432) o r o₂) where
  pub dry_loose : (k : ℕ) → r ≡ Err k → ComposedBy (stock_from d ds) (records_from u us).items at o (Err k) o₂
  dry_loose k x = record {
    said = let (y, z, e) = loose_said _ _ (at + 33554432) k (ap said_by (sym x) ∙ c.said) in said_loose _ _ at k y z e;
    stands = λ c e. absurd (let z : ◌≡◌ {A = ℕ} 0 1 = cc in omega arith);
    kept = λ c e. absurd (let z : ◌≡◌ {A = ℕ} 0 1 = cc in omega arith);
  }

  module _ (n : Composed) (x : r ≡ Ok n) where
    whole : said_by (Ok n) ≡ composed_of (stock_from d ds) (records_from u us).items (at + 33554432)
    whole = ap said_by (sym x) ∙ c.said

    pub dry_long : 33554432 ≤ n.length
    dry_long = omega (arith, whole_long _ _ (at + 33554432) n whole)

    -- nothing was written
    pub dry_kept : o₂ ≡ o
    dry_kept = c.kept n x (omega arith)

    pub dry_indices : (lim : Limits) (sure : Bool) → Indices d ds u us lim o → Indices d ds u us (record { old = lim.old; new = lim.new; dry = false; sure = sure }) o₂
    dry_indices lim sure i = subst (Indices d ds u us (record { old = lim.old; new = lim.new; dry = false; sure = sure })) (sym dry_kept) (indices_as d ds u us lim false sure o i)

    pub dry_clear : (lim : Limits) → Clear d ds u us lim
    unfolding Clear
    dry_clear lim h = whole_linked _ _ (at + 33554432) n whole

    -- it has no room
    pub dry_short : length o₂ < n.length - 33554432 → ComposedBy (stock_from d ds) (records_from u us).items at o (Ok (record { length = n.length - 33554432; count = n.count })) o₂
    dry_short h =
        let l = whole_long _ _ (at + 33554432) n whole in
        let same = ap length dry_kept in
        record {
          said = said_whole _ _ at (record { length = n.length - 33554432; count = n.count }) (whole_linked _ _ (at + 33554432) n whole) (omega arith) (whole_counted _ _ (at + 33554432) n whole);
          stands = λ m e g. absurd (let z : m.length ≡ n.length - 33554432 = cc in omega arith);
          kept = λ m e g. dry_kept;
        }

    -- it is written by the pass behind it
    pub dry_then : (s : Result Composed ℕ) (o₃ : List ℕ) → ComposedBy (stock_from d ds) (records_from u us).items at o₂ s o₃ → ComposedBy (stock_from d ds) (records_from u us).items at o s o₃
    dry_then s o₃ y = subst (λ (b : List ℕ). ComposedBy (stock_from d ds) (records_from u us).items at b s o₃) dry_kept y
