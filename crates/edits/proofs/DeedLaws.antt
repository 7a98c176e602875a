-- Each act by itself: its splice of the bytes is the splice of the list of items. Assumes nothing.
use mathlib.Core.Path.{◌≡◌, refl, sym, ap}
use mathlib.Core.List.{List, ◌++◌, append_assoc}
use mathlib.Core.Logic.{⊎_elim}
use mathlib.Core.Bool.{Bool, true, false}
use Prim.Native.Nat.{ℕ, suc, ◌+◌, ◌-◌, ◌*◌, ◌≤◌, ◌<◌}
use native.Mathlib.Numerals.{add-one}
use native.Mathlib.Omega.{arith}
use lib.ListN.{length, get_or}
use borrow.Author.Tests.{lt-ltb, le-ltb, ne_eqb}
use Rattle.base.specs.Choice.{both}
use Rattle.base.specs.Check.{Check, ok, no, bind}
use Rattle.memory.specs.Put.{put}
use Rattle.memory.specs.Splice.{opened}
use Rattle.forest.specs.Forest.{valued}
use Rattle.forest.specs.Acts.{insert, delete, modify, Acts, act}
use Rattle.forest.specs.Flat.{Item, after, edit_flat}
use Rattle.forest.proofs.Numbers.{eq_or_ne}
use Rattle.rules.specs.Trees.{instruction_of}
use Rattle.items.specs.Items.{u16, text_from, source, ref_bytes, item_bytes}
use Rattle.items.proofs.ItemLaws.{same_less, ref_below}
use Rattle.edits.specs.declared.single.Deed.TheVariants.{Not, Gone, Lead}
use Rattle.edits.specs.Search.{place_of, twins, spot_of, deeper_at, gone_count, gone_out}
use Rattle.edits.specs.Read.{act_at}
use Rattle.edits.specs.Says.{DeedSays}
use Rattle.edits.proofs.SearchLaws.{place_bound, place_is, spot_bound, gone_bound}
use Rattle.edits.proofs.ListLaws.{place_absent, place_there, end_list, twins_list, deeper_list, spot_list}
use Rattle.edits.proofs.ChangeLaws.{grown_same, grown_after, grown_before, gone_same, gone_its, turned_after, turned_before}

-- an insert
act_insert : (u : List ℕ) (at q : ℕ) (us rest : Acts) → get_or u (at + 6) 0 ≡ 1 → act_at u at q us rest ≡ act q insert (u16 u at) (u16 u (at + 2)) (text_from u (at + 7)) us rest
unfolding act_at instruction_of
act_insert u at q us rest e = rw e

-- a delete
act_delete : (u : List ℕ) (at q : ℕ) (us rest : Acts) → get_or u (at + 6) 0 ≡ 2 → act_at u at q us rest ≡ act q delete (u16 u at) (u16 u (at + 2)) (text_from u (at + 7)) us rest
unfolding act_at instruction_of
act_delete u at q us rest e = rw e

-- a modify
act_modify : (u : List ℕ) (at q : ℕ) (us rest : Acts) → (get_or u (at + 6) 0 ≡ 1 → ⊥) → (get_or u (at + 6) 0 ≡ 2 → ⊥) → act_at u at q us rest ≡ act q modify (u16 u at) (u16 u (at + 2)) (text_from u (at + 7)) us rest
unfolding act_at instruction_of
act_modify u at q us rest e f = rw (ne_eqb (get_or u (at + 6) 0) 1 e, ne_eqb (get_or u (at + 6) 0) 2 f)

-- a list before a list
after_append : (a b : List Item) (c : Check (List Item)) → after a (after b c) ≡ after (a ++ b) c
unfolding after
after_append a b (ok x) = ap ok (sym (append_assoc a b x))
after_append a b (no n) = refl

-- what an act comes to on the run of depth d that starts at start
module _ (s u : List ℕ) (at q : ℕ) (w : List ℕ) (n start d : ℕ) (hs : start ≤ n) where
  -- an insert under a value
  insert_valued : (v : List ℕ) → get_or u (at + 6) 0 ≡ 1 → DeedSays s u at q w n start d true v (Not 6)
  unfolding DeedSays edit_flat
  insert_valued v kind us rest = rw (act_insert u at q us rest kind)

  -- an insert with an index that is too large
  insert_far : (v : List ℕ) (m : ℕ) → get_or u (at + 6) 0 ≡ 1 → m ≡ twins w start n d (u16 u at) → m + 1 < u16 u (at + 2) → DeedSays s u at q w n start d false v (Not 9)
  unfolding DeedSays edit_flat
  insert_far v m kind e h us rest =
      rw (act_insert u at q us rest kind, twins_list s u w start n d (u16 u at) hs, ← e, lt-ltb (suc m) (u16 u (at + 2)) (omega arith))

  -- an insert at its place
  insert_led : (m j : ℕ) (v : List ℕ) → get_or u (at + 6) 0 ≡ 1 → at + 8 ≤ 16777216 → 8 * n + 8 ≤ length w → d < 65536 → u16 u at < 65536
      → m ≡ twins w start n d (u16 u at) → u16 u (at + 2) ≤ m + 1 → j ≡ spot_of w start n d (u16 u at) (u16 u (at + 2)) m
      → v ≡ put (8 * j) (item_bytes d (u16 u at) (at + 7) 1) (opened (8 * n) (8 * j) 8 w) → DeedSays s u at q w n start d false v (Lead j (n + 1))
  unfolding DeedSays edit_flat source
  insert_led m j v kind low room hd hc em h ej ev =
      let b = spot_bound w start n d (u16 u at) (u16 u (at + 2)) m hs in
      let hj : j ≤ n = omega arith in
      let ho : at + 7 < 16777216 = omega arith in
      let ej' : j ≡ spot_of w start n d (u16 u at) (u16 u (at + 2)) (twins w start n d (u16 u at)) = rw (← em) ej in
      rw ev (record {
        is = λ us rest.
            rw (
              act_insert u at q us rest kind,
              twins_list s u w start n d (u16 u at) hs,
              ← em,
              le-ltb (suc m) (u16 u (at + 2)) (omega arith),
              spot_list s u w start n d (u16 u at) (u16 u (at + 2)) j hs ej',
              grown_before w n j d (u16 u at) (at + 7) 1 hj room hd hc ho s u start (omega arith),
              grown_after w n j d (u16 u at) (at + 7) 1 hj room hd hc ho s u,
              add-one d,
              after_append,
            );
        kind = λ z. omega (arith, z);
        kept = same_less w _ (8 * start) (8 * j) (omega arith) (grown_same w n j d (u16 u at) (at + 7) 1 hj room hd hc ho);
        low = omega arith;
        high = omega arith;
        size = omega arith;
      })

  -- inserts in the words of the code
  module _ (barren : Bool) (kind : get_or u (at + 6) 0 ≡ 1) where
    -- under a value
    pub insert_6 : (v : List ℕ) → barren ≡ true → DeedSays s u at q w n start d barren v (Not 6)
    insert_6 v e = rw e (insert_valued v kind)

    module _ (eh : barren ≡ false) (code k m : ℕ) (ec : code ≡ u16 u at) (ek : k ≡ u16 u (at + 2)) (em : m ≡ twins w start n d code) where
      -- with an index that is too large
      pub insert_9 : (v : List ℕ) → m + 1 < k → DeedSays s u at q w n start d barren v (Not 9)
      insert_9 v h = rw eh (insert_far v m kind (rw ec at em) (omega arith))

      -- at its place
      pub insert_lead : (j : ℕ) (v : List ℕ) → at + 8 ≤ 16777216 → 8 * n + 8 ≤ length w → d < 65536 → code < 65536 → k ≤ m + 1 → j ≡ spot_of w start n d code k m
          → v ≡ put (8 * j) (item_bytes d code (at + 7) 1) (opened (8 * n) (8 * j) 8 w) → DeedSays s u at q w n start d barren v (Lead j (n + 1))
      insert_lead j v low room hd hc h ej ev = rw eh (insert_led m j v kind low room hd (omega arith) (rw ec at em) (omega arith) (rw (ec, ek) at ej) (rw ec at ev))

  -- a delete or a modify of an item that is not there
  pub alter_absent : (barren : Bool) (v : List ℕ) → (get_or u (at + 6) 0 ≡ 1 → ⊥) → n ≤ place_of w start n d (u16 u at) (u16 u (at + 2)) → DeedSays s u at q w n start d barren v (Not 9)
  unfolding DeedSays edit_flat bind
  alter_absent barren v kind h us rest =
      let none = place_absent q s u w start n d (u16 u at) (u16 u (at + 2)) hs h in
      ⊎_elim
      (λ (z : get_or u (at + 6) 0 ≡ 2). rw (act_delete u at q us rest z, none))
      (λ (z : get_or u (at + 6) 0 ≡ 2 → ⊥). rw (act_modify u at q us rest kind z, none))
      (eq_or_ne (get_or u (at + 6) 0) 2)

  -- of item i
  module _ (i : ℕ) (ei : i ≡ place_of w start n d (u16 u at) (u16 u (at + 2))) (hi : i < n) (room : 8 * n ≤ length w) where
    -- it stands in the run
    low_i : start ≤ i
    low_i = omega (arith, place_bound w start n d (u16 u at) (u16 u (at + 2)) hs)

    -- a delete
    pub alter_gone : (barren : Bool) (v : List ℕ) (m : ℕ) → get_or u (at + 6) 0 ≡ 2 → m ≡ n - gone_count w n i d → v ≡ gone_out w n i d → DeedSays s u at q w n start d barren v (Gone m)
    unfolding DeedSays edit_flat bind
    alter_gone barren v m kind em ev =
        rw (ev, em) (record {
          is = λ us rest.
              rw (
                act_delete u at q us rest kind,
                place_there q s u w start n d (u16 u at) (u16 u (at + 2)) i hs ei hi,
                ← add-one d,
                end_list s u w (i + 1) n (d + 1) (omega arith),
                gone_its w n i d hi room s u start low_i,
              );
          kind = kind;
          kept = same_less w _ (8 * start) (8 * i) (omega (arith, low_i)) (gone_same w n i d hi room);
          room = omega (arith, low_i, gone_bound w n i d hi);
          size = omega arith;
        })

    -- a modify that sends a value to an item with children
    pub alter_beside : (barren : Bool) (v : List ℕ) → (get_or u (at + 6) 0 ≡ 1 → ⊥) → (get_or u (at + 6) 0 ≡ 2 → ⊥)
        → both (valued (text_from u (at + 7))) (deeper_at w n (i + 1) (d + 1)) ≡ true → DeedSays s u at q w n start d barren v (Not 6)
    unfolding DeedSays edit_flat bind
    alter_beside barren v k₁ k₂ t us rest =
        rw (act_modify u at q us rest k₁ k₂, place_there q s u w start n d (u16 u at) (u16 u (at + 2)) i hs ei hi, ← add-one d, deeper_list s u w (i + 1) n (d + 1), t)

    -- any other modify
    pub alter_led : (barren : Bool) (v : List ℕ) → (get_or u (at + 6) 0 ≡ 1 → ⊥) → (get_or u (at + 6) 0 ≡ 2 → ⊥) → at + 8 ≤ 16777216
        → both (valued (text_from u (at + 7))) (deeper_at w n (i + 1) (d + 1)) ≡ false → v ≡ put (8 * i + 4) (ref_bytes (at + 7) 1) w → DeedSays s u at q w n start d barren v (Lead i n)
    unfolding DeedSays edit_flat bind source
    alter_led barren v k₁ k₂ low t ev =
        let is-i = place_is w start n d (u16 u at) (u16 u (at + 2)) i hs ei hi in
        let ho : at + 7 < 16777216 = omega arith in
        rw ev (record {
          is = λ us rest.
              rw (
                act_modify u at q us rest k₁ k₂,
                place_there q s u w start n d (u16 u at) (u16 u (at + 2)) i hs ei hi,
                ← add-one d,
                deeper_list s u w (i + 1) n (d + 1),
                t,
                turned_before w n i (at + 7) 1 hi room ho s u start low_i,
                turned_after w n i (at + 7) 1 hi room ho s u,
                is-i.0,
                is-i.1,
                after_append,
              );
          kind = k₂;
          kept = same_less w _ (8 * start) (8 * i) (omega (arith, low_i)) (ref_below w i (at + 7) 1 (omega arith) ho);
          low = low_i;
          high = hi;
          size = omega arith;
        })
