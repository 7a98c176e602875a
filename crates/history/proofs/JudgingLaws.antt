-- Laws of the verdicts on update records. Assumes nothing.
use mathlib.Core.Path.{◌≡◌, refl, sym, ap, ◌∙◌, subst}
use mathlib.Core.Bool.{Bool, true, false, not, true≢false}
use mathlib.Core.Option.{Option, some, none}
use mathlib.Core.List.{List, [], ◌∷◌, ◌++◌}
use Prim.Native.Nat.{ℕ, ◌+◌, ◌-◌, ◌^◌, ◌≤◌, ◌<◌}
use native.Mathlib.Omega.{arith}
use borrow.Author.Tests.{not-true, not-false, eqb-true, ltb-true, ltb-false, lt-ltb, le-ltb, leb-true, leb-false}
use lib.Dec.{eqb, ltb, leb}
use lib.ListN.{length, drop, length-append}
use Rattle.std.specs.Prelude.{Option as StdOption, Some, None, Result, Ok, Err}
use Rattle.base.specs.Choice.{pick, either}
use Rattle.base.specs.Check.{ok, no, bind, fault}
use Rattle.base.specs.Lists.{each, Each}
use Rattle.base.specs.Verdict.{refusal}
use Rattle.base.specs.declared.Fault.{Fault}
use Rattle.base.proofs.CheckLaws.{bind_inv}
use Rattle.base.proofs.EachLaws.{each_parts}
use Rattle.base.proofs.KeysLaws.{same_sound, same_refl}
use Rattle.base.proofs.ListLaws.{each_append}
use Rattle.skeleton.specs.File.{Field, records_from}
use Rattle.rules.specs.Record.{Rec, key_of as key_in_rules}
use Rattle.sequence.specs.Keyed.{Ran, stop, done, Under, Has, Once, find}
use Rattle.sequence.specs.History.{history, version, due, judged, First, Fine as AllFine, verdict}
use Rattle.sequence.proofs.Arms.{due_of}
use Rattle.sequence.proofs.Local.{history_append, run_judged}
use Rattle.sequence.proofs.Lists.{each_find}
use Rattle.sequence.proofs.Refusal.{run_refused, run_accepted}
use Rattle.updates.specs.Acts.{chart, in_update}
use Rattle.updates.specs.Accepted.{Writable}
use Rattle.updates.specs.Streamed.{verdicts}
use Rattle.updates.proofs.Acted.{lawful}
use Rattle.stock.specs.Stock.{rec_in, stock_from}
use Rattle.incoming.specs.Fitting.{Single, Rest}
use Rattle.keys.specs.Bits.{flag_of}
use Rattle.keys.specs.Listed.{key_of, keys_from, listed}
use Rattle.keys.specs.Look.{look_at, Sound}
use Rattle.keys.specs.Numbered.{number_of, Ranged}
use Rattle.keys.specs.declared.look.Look.{Look}
use Rattle.keys.proofs.ListLaws.{listed_none, listed_more}
use Rattle.keys.proofs.NumberLaws.{number_inj}
use Rattle.keys.proofs.SoundLaws.{sound_nothing}
use Rattle.keys.specs.Places.{site_in, Leads, here, over}
use Rattle.sorting.specs.Places.{Next}
use Rattle.keys.proofs.PlaceLaws.{leads_sound, leads_up, leads_then, leads_on, leads_end}
use Rattle.version.specs.Areas.{flag_area}
use Rattle.version.specs.Present.{HeldAs, FlagsKept}
use Rattle.version.specs.declared.Version.{Version}
use Rattle.history.specs.Here.{record_here, named_in, records_up_to}
use Rattle.history.specs.Flags.{key_flag, Flags, Marked}
use Rattle.history.proofs.FindingLaws.{Stands, Located, located}
use Rattle.history.specs.Ready.{Ready}
use Rattle.history.specs.Played.{Playing, EndsAt, Coursed}
use Rattle.history.specs.Judged.{keys_up_to, Naming, Through, RefusedAt, Followed, earlier_by, earlier_of, Judging, judged_by, AllJudged}
use Rattle.history.specs.declared.playing.Course.{Course}
use Rattle.history.specs.declared.judging.Stop.{Stop}
use Rattle.history.proofs.FlagLaws.{flags_none, flags_clear, flags_more, flags_kept, area_long}
use Rattle.history.proofs.UpToLaws.{sound_first, leads_past, listed_middle, upto_start, upto_end, upto_split, upto_more, upto_one, upto_later, none_before, one_before}
use Rattle.history.proofs.PlayingLaws.{Met, met, Named, single_named, rest_sound}
use Rattle.history.proofs.CourseLaws.{history_then, history_past}

-- ---- a key whose history goes through

module _ (recs : List Rec) where
  -- it does so with fewer update records
  through_front : (k : List ℕ) (xs ys : List (List Field)) (o : Option Rec) → version chart recs (xs ++ ys) k ≡ ok o → (p : Option Rec) × (version chart recs xs k ≡ ok p)
  unfolding version
  through_front k xs ys o e =
      let i = bind_inv (history chart k xs (find chart k recs)) (λ p. history chart k ys p) o (sym (history_append chart lawful k xs ys (find chart k recs)) ∙ e) in
      (i.0, i.1)

  -- of one that names it, the change is accepted
  own_change : (y : List Field) (zs : List (List Field)) (o p : Option Rec) → history chart (named_in y) (y ∷ zs) o ≡ ok p → (q : Option Rec) × (chart.change y o ≡ ok q)
  unfolding history
  own_change y zs o p e =
      let c : bind (chart.change y o) (λ q. history chart (named_in y) zs q) ≡ ok p = rw (same_refl (named_in y)) at e in
      let j = bind_inv (chart.change y o) (λ q. history chart (named_in y) zs q) p c in
      (j.0, j.1)

  -- each that names it is accepted
  through_one : (xs : List (List Field)) (y : List Field) (zs : List (List Field)) (o : Option Rec) → version chart recs (xs ++ (y ∷ zs)) (named_in y) ≡ ok o
      → (p : Option Rec) × (due chart recs xs y ≡ ok p)
  unfolding version
  through_one xs y zs o e =
      let k = named_in y in
      let i = bind_inv (history chart k xs (find chart k recs)) (λ p. history chart k (y ∷ zs) p) o (sym (history_append chart lawful k xs (y ∷ zs) (find chart k recs)) ∙ e) in
      let j = own_change y zs i.0 o i.2 in
      (j.0, due_of chart 0 recs xs y zs i.0 i.1 ∙ j.1)

  module _ (once : Once chart recs) (items : List (List Field)) where
    -- the verdicts, by the first refusal
    first_judged : (j : ℕ) (x : Fault) → First chart 3 recs items j x → judged chart 3 recs [] items ≡ stop j x
    unfolding verdict
    first_judged j x f = sym (run_judged chart lawful 3 recs items once) ∙ ap verdict ((run_refused chart lawful 3 recs items once j x).1 f)

    -- or by none
    fine_judged : AllFine chart recs items → judged chart 3 recs [] items ≡ done tt
    unfolding verdict
    fine_judged f = sym (run_judged chart lawful 3 recs items once) ∙ ap verdict ((run_accepted chart lawful 3 recs items once).1 f).1

-- ---- `is_first`

module _ (u : List ℕ) (us q key : ℕ) where
  -- its flag is not raised
  pub first_flag : (t : List ℕ) → Flags (keys_up_to u us q) t → flag_of t (key_flag key) ≡ false → true ≡ not (listed key (keys_up_to u us q))
  first_flag t f e = ap not (sym (flags_clear (keys_up_to u us q) t key f e))

  -- the first that names it is found
  pub first_found : Sound u us → Leads u us q → (r : ℕ) → Next u key us r → leb q r ≡ not (listed key (keys_up_to u us q))
  first_found s l r n = go (leb q r) refl
    where
      go : (b : Bool) → leb q r ≡ b → b ≡ not (listed key (keys_up_to u us q))
      go true e = ap not (sym (none_before u us s q l key r n (leb-true q r e)))
      go false e = ap not (sym (one_before u us s q l key r n (leb-false q r e)))

-- what it says
pub is_listed : (b c : Bool) → b ≡ not c → not b ≡ true → c ≡ true
is_listed b true e h = refl
is_listed b false e h = absurd (true≢false (sym e ∙ not-true b h))

pub is_new : (b c : Bool) → b ≡ not c → not b ≡ false → c ≡ false
is_new b false e h = refl
is_new b true e h = absurd (true≢false (sym (not-false b h) ∙ e))

-- ---- `earlier`

module _ (c : Course) (s : Stop) where
  pub earlier_new : (x : Fault) → c.left ≡ Err x → c.at < s.at → record { at = c.at; fault = x } ≡ earlier_of c s
  unfolding earlier_by
  earlier_new x e h = rw (e, lt-ltb c.at s.at h) refl

  pub earlier_old : (x : Fault) → c.left ≡ Err x → s.at ≤ c.at → s ≡ earlier_of c s
  unfolding earlier_by
  earlier_old x e h = rw (e, le-ltb c.at s.at h) refl

  pub earlier_none : (p : StdOption Version) → c.left ≡ Ok p → s ≡ earlier_of c s
  unfolding earlier_by
  earlier_none p e = rw e refl

pub ruleset earlier_ways = (earlier_new, earlier_old, earlier_none, arith)

-- ---- up to a place of the update

module _ (d : List ℕ) (ds : ℕ) (u : List ℕ) (us : ℕ) (y : Ready d ds u us) where
  pub ready_sound : Sound u us
  ready_sound = rest_sound u us y.rest y.inside y.short.new

  singles_upto : (q : ℕ) → Leads u us q → Each Single (records_up_to u us q)
  singles_upto q l =
      (each_parts Single (records_up_to u us q) (records_from u q).items (subst (Each Single) (upto_split u us ready_sound q l) y.rest.singles)).0

  rest_at : (q : ℕ) → Leads u us q → Rest u q
  rest_at q l = record {
    ended = (leads_sound l ready_sound).clean;
    singles = (each_parts Single (records_up_to u us q) (records_from u q).items (subst (Each Single) (upto_split u us ready_sound q l) y.rest.singles)).1;
  }

  through_less : (b c key : ℕ) → Leads u us b → Leads u us c → b ≤ c → Through d ds u us c key → Through d ds u us b key
  unfolding Through
  through_less b c key l m h t k r n =
      let g = upto_later u us ready_sound b l c m h in
      let e = t k r n in
      through_front (stock_from d ds) k (records_up_to u us b) g.0 e.0 (ap (λ (xs : List (List Field)). version chart (stock_from d ds) xs k) (sym g.1) ∙ e.1)

  single_first : (z : List Field) (zs : List (List Field)) → Each Single (z ∷ zs) → Named z
  unfolding Each
  single_first z zs s = single_named z s.0

  -- where the histories of all keys that are named before q go through up to there, no update record before q is refused
  all_through : (q : ℕ) → Leads u us q → ((key : ℕ) → listed key (keys_up_to u us q) ≡ true → Through d ds u us q key) → AllFine chart (stock_from d ds) (records_up_to u us q)
  unfolding AllFine Through
  all_through q l t xs z zs e =
      let s = (each_parts Single xs (z ∷ zs) (subst (Each Single) e (singles_upto q l))).1 in
      let n = single_first z zs s in
      let i = ap (λ (m : List (List Field)). listed (key_of z) (each key_of m)) e ∙ listed_middle (key_of z) xs z zs refl in
      let v = t (key_of z) i (named_in z) n.ranged (sym n.number) in
      through_one (stock_from d ds) xs z zs v.0 (ap (λ (m : List (List Field)). version chart (stock_from d ds) m (named_in z)) (sym e) ∙ v.1)

  -- ---- `course`

  module _ (q key : ℕ) (l : Leads u us q) (named : Naming u q key) (new : listed key (keys_up_to u us q) ≡ false) where
    pub course_rest : Rest u q
    course_rest = rest_at q l

    pub course_inside : q ≤ length u
    course_inside = (leads_sound l ready_sound).inside

    pub course_sound : Sound u us
    course_sound = ready_sound

    module _ (w v : List ℕ) (p : StdOption Version) (v2 : List ℕ) (c : Course) (f : FlagsKept w v) (a : Coursed d u q v p key v2 c)
        (h : (k : List ℕ) → Ranged k → number_of k ≡ key → HeldAs d u v p (find chart k (stock_from d ds)) × Under chart k (find chart k (stock_from d ds))) where
      -- what the update records before `at` make of the key
      version_is : (k : List ℕ) → Ranged k → number_of k ≡ key
          → (o : Option Rec) × (version chart (stock_from d ds) (records_up_to u us c.at) k ≡ ok o) × EndsAt d u v2 c.at k o c.left
      unfolding version
      version_is k r n =
          let b = h k r n in
          let t = a.came k r n (find chart k (stock_from d ds)) b.0 b.1 in
          let none : listed (number_of k) (keys_up_to u us q) ≡ false = ap (λ (i : ℕ). listed i (keys_up_to u us q)) n ∙ new in (
            t.0,
            ap (λ (xs : List (List Field)). history chart k xs (find chart k (stock_from d ds))) (upto_more u us ready_sound q l c.at a.passed a.split)
                ∙ history_then k (records_up_to u us q) a.passed (find chart k (stock_from d ds)) (find chart k (stock_from d ds))
                (history_past k r (records_up_to u us q) (find chart k (stock_from d ds)) (singles_upto q l) none)
                ∙ t.1,
            t.2,
          )

      pub followed : Followed d ds u us q key w v2 c
      unfolding Through RefusedAt EndsAt
      followed = record {
        leads = a.leads;
        through = λ k r n. (let t = version_is k r n in (t.0, t.1));
        ends = λ g. (let t = version_is (named_in (record_here u q)) named.ranged named.number in go c.left refl g t.0 t.1 t.2);
        kept = a.kept ∙ f;
      }
        where
          go : (x : Result (StdOption Version) Fault) → c.left ≡ x → c.at < length u → (o : Option Rec) → version chart (stock_from d ds) (records_up_to u us c.at) (named_in (record_here u q)) ≡ ok o
              → EndsAt d u v2 c.at (named_in (record_here u q)) o x
              → (f : Fault) × (c.left ≡ Err f) × RefusedAt d ds u us c.at f
          go (Err f) e g o z t =
              let n = same_sound (named_in (record_here u c.at)) (named_in (record_here u q)) t.1 in
              (f, e, due_of chart 0 (stock_from d ds) (records_up_to u us c.at) (record_here u c.at) [] o (ap (version chart (stock_from d ds) (records_up_to u us c.at)) n ∙ z) ∙ t.2)
          go (Ok p2) e g o z t = absurd (let i = t.0 in omega arith)

    -- the record that was located
    module _ (sound : Sound d ds) (r : StdOption ℕ) (e : r ≡ site_in d ds key) where
      pub at : Located d ds key r
      at = located d ds y.stock y.once key sound r e

      module _ (place : ℕ) (h : r ≡ Some place) (v : List ℕ) (p : StdOption Version)
          (g : (c : List ℕ) → Writable (rec_in (record_here d place)) → HeldAs d c v p (some (rec_in (record_here d place)))) where
        stands : Stands d ds key (rec_in (record_here d place))
        stands = at.there place h

        writes : Writable (rec_in (record_here d place))
        writes =
            subst (Has chart Writable) stands.found (each_find chart Writable (key_in_rules (rec_in (record_here d place))) (stock_from d ds) y.writable)

        key_of_lem : (k : List ℕ) → Ranged k → number_of k ≡ key → key_in_rules (rec_in (record_here d place)) ≡ k
        key_of_lem k a n = number_inj (key_in_rules (rec_in (record_here d place))) k stands.ranged a (n ∙ sym stands.number)

        pub there_playing : Playing d u v p key
        there_playing = record { what = some (rec_in (record_here d place)); held = g u writes; under = λ k a n. key_of_lem k a n }

        pub there_followed : (w : List ℕ) → FlagsKept w v → (v2 : List ℕ) (c : Course) → Coursed d u q v p key v2 c → Followed d ds u us q key w v2 c
        there_followed w f v2 c a =
            followed w v p v2 c f a
            (λ k x n.
            let e : find chart k (stock_from d ds) ≡ some (rec_in (record_here d place))
            = subst (λ (i : List ℕ). find chart i (stock_from d ds) ≡ some (rec_in (record_here d place))) (key_of_lem k x n) stands.found in
            (subst (HeldAs d u v p) (sym e) (g u writes), subst (Under chart k) (sym e) (key_of_lem k x n)))

      -- none was
      pub gone_playing : (w : List ℕ) → Playing d u w None key
      unfolding HeldAs
      gone_playing w = record { what = none; held = refl; under = λ k a n. tt }

      pub gone_followed : r ≡ None → (w v : List ℕ) (c : Course) → Coursed d u q w None key v c → Followed d ds u us q key w v c
      unfolding HeldAs
      gone_followed h w v c a =
          followed w w None v c refl a (λ k x n. (let e = at.gone h k x n in (e, subst (Under chart k) (sym e) tt)))

  -- ---- `first_stop`

  module _ (q key : ℕ) (l : Leads u us q) (s : Stop) (j : Judging d ds u us q s) where
    -- it is named before
    pub stop_same : listed key (keys_up_to u us q) ≡ true → (w : List ℕ) → Judging d ds u us q s × Through d ds u us s.at key × FlagsKept w w
    stop_same h w = (j, j.through key h, refl)

    -- one of two refusals
    module _ (w v : List ℕ) (c : Course) (a : Followed d ds u us q key w v c) where
      at_course : Leads u us c.at
      at_course = leads_then l a.leads

      before_end : s.at ≤ length u
      before_end = (leads_sound j.leads ready_sound).inside

      -- that of the course is the first
      new_stop : (f : Fault) → c.left ≡ Err f → c.at < s.at
          → Judging d ds u us q (record { at = c.at; fault = f }) × Through d ds u us c.at key × FlagsKept w v
      unfolding RefusedAt
      new_stop f e h = (
        record {
          leads = at_course;
          ahead = leads_up a.leads (leads_sound l ready_sound);
          through = λ k i. through_less c.at s.at k at_course j.leads (omega arith) (j.through k i);
          ends = λ g. (let x = a.ends g in same_fault x.0 x.1 x.2);
        },
        a.through,
        a.kept,
      )
        where
          same_fault : (g : Fault) → c.left ≡ Err g → due chart (stock_from d ds) (records_up_to u us c.at) (record_here u c.at) ≡ no g
              → due chart (stock_from d ds) (records_up_to u us c.at) (record_here u c.at) ≡ no f
          same_fault g z y = y ∙ ap no (let a : g ≡ f = cc in a)

      -- or that which was found before
      old_stop : s.at ≤ c.at → Judging d ds u us q s × Through d ds u us s.at key × FlagsKept w v
      old_stop h = (j, through_less s.at c.at key j.leads at_course h a.through, a.kept)

      pub stop_earlier : (r : Stop) → r ≡ earlier_of c s → Judging d ds u us q r × Through d ds u us r.at key × FlagsKept w v
      unfolding earlier_by
      stop_earlier r e =
          subst (λ (x : Stop). Judging d ds u us q x × Through d ds u us x.at key × FlagsKept w v) (sym e) (go c.left refl)
        where
          go : (x : Result (StdOption Version) Fault) → c.left ≡ x → Judging d ds u us q (earlier_by x c.at s) × Through d ds u us (earlier_by x c.at s).at key × FlagsKept w v
          go (Ok p) z = old_stop (past (ltb c.at (length u)) refl)
            where
              past : (b : Bool) → ltb c.at (length u) ≡ b → s.at ≤ c.at
              past true g = absurd (let x = a.ends (ltb-true c.at (length u) g) in let n : ◌≡◌ {A = ℕ} 0 1 = cc in omega arith)
              past false g = let i = ltb-false c.at (length u) g in let m = before_end in omega arith
          go (Err f) z = which (ltb c.at s.at) refl
            where
              which : (b : Bool) → ltb c.at s.at ≡ b
                  → Judging d ds u us q (pick b (record { at = c.at; fault = f }) s)
                  × Through d ds u us (pick b (record { at = c.at; fault = f }) s).at key × FlagsKept w v
              which true g = new_stop f z (ltb-true c.at s.at g)
              which false g = old_stop (ltb-false c.at s.at g)

-- ---- `judge`

-- j update records from us on were judged, and the next begins at q
pub record Verdicts (d : List ℕ) (ds : ℕ) (u : List ℕ) (us q j : ℕ) (s : Stop) (w : List ℕ) : Type 0 where
  pub leads : Leads u us q
  pub judging : Judging d ds u us q s
  pub flags : Flags (keys_up_to u us q) (flag_area w)
  pub counted : j ≡ length (records_up_to u us q)
  pub small : j ≤ q

module _ (d : List ℕ) (ds : ℕ) (u : List ℕ) (us : ℕ) (y : Ready d ds u us) where
  pub verdicts_start : (w : List ℕ) → Verdicts d ds u us us 0 (record { at = length u; fault = fault 0 0 0 }) w
  unfolding each
  verdicts_start w = record {
    leads = here;
    judging = record {
      leads = leads_end u us (ready_sound d ds u us y);
      ahead = y.inside;
      through = λ key h. absurd (true≢false (sym h ∙ ap (λ (xs : List (List Field)). listed key (each key_of xs)) (upto_start u us) ∙ listed_none key));
      ends = λ h. absurd (omega arith);
    };
    flags = subst (λ (xs : List (List Field)). Flags (each key_of xs) (flag_area w)) (sym (upto_start u us)) (flags_none (flag_area w));
    counted = ap length (sym (upto_start u us));
    small = omega arith;
  }

  module _ (q j : ℕ) (s : Stop) (w : List ℕ) (t : Verdicts d ds u us q j s w) where
    sound_here : Sound u q
    sound_here = leads_sound t.leads (ready_sound d ds u us y)

    pub verdicts_look : (length u ≤ 16777216) × (q ≤ length u)
    verdicts_look = (y.short.new, sound_here.inside)

    pub verdicts_word : j + 3 < 2 ^ 64
    verdicts_word = let a = t.small in let b = sound_here.inside in let c = y.short.new in omega arith

    -- all are accepted
    pub verdicts_over : length u ≤ q → AllJudged d ds u us w (Ok tt)
    unfolding verdicts judged_by in_update keys_from
    verdicts_over h =
        let e : records_up_to u us q ≡ (records_from u us).items = upto_end u us q h in
        let at_end_lem : s.at ≡ q = (let a = t.judging.ahead in let b = (leads_sound t.judging.leads (ready_sound d ds u us y)).inside in let c = sound_here.inside in omega arith) in
        let f = all_through d ds u us y q t.leads (λ key i. subst (λ (b : ℕ). Through d ds u us b key) at_end_lem (t.judging.through key i)) in
        let g = fine_judged (stock_from d ds) y.once (records_from u us).items (subst (AllFine chart (stock_from d ds)) e f) in
        record {
          came = sym (ap (λ (r : Ran (Unit {0})). judged_by (in_update r)) g);
          flags = λ _. subst (λ (xs : List (List Field)). Flags (each key_of xs) (flag_area w)) e t.flags;
        }

    module _ (e : StdOption Look) (en : e ≡ look_at u q) (h : q < length u) where
      pub verdicts_nothing : e ≡ None → AllJudged d ds u us w (Ok tt)
      verdicts_nothing x = absurd (sound_nothing u q sound_here e en h x)

      module _ (look : Look) (x : e ≡ Some look) where
        meets : Met u q look.len look.key
        meets = met u q (rest_at d ds u us y q t.leads) sound_here e en look x

        pub verdicts_naming : Naming u q look.key
        verdicts_naming = record { there = h; ranged = meets.ranged; number = meets.number }

        pub verdicts_fits : q + look.len < 2 ^ 64
        verdicts_fits = let i = meets.inside in let l = y.short.new in omega arith

        pub verdicts_falls : length u - (q + look.len) < length u - q
        verdicts_falls = let i = meets.inside in let l = meets.long in omega arith

        module _ (r : Stop) (v : List ℕ) (b : Judging d ds u us q r × Through d ds u us r.at look.key × FlagsKept w v) where
          -- the one at q is refused
          pub verdicts_stop : r.at ≡ q → AllJudged d ds u us v (Err (refusal (j + 3) r.fault))
          unfolding verdicts judged_by in_update RefusedAt
          verdicts_stop z =
              let x = r.fault in
              let f = all_through d ds u us y q t.leads (λ k i. subst (λ (c : ℕ). Through d ds u us c k) z (b.0.through k i)) in
              let refusal : due chart (stock_from d ds) (records_up_to u us q) (record_here u q) ≡ no x
              = subst (λ (c : ℕ). due chart (stock_from d ds) (records_up_to u us c) (record_here u c) ≡ no x) z (b.0.ends (omega arith)) in
              let g = first_judged (stock_from d ds) y.once (records_from u us).items (j + 3) x
              (record {
                pre = records_up_to u us q;
                at = record_here u q;
                post = drop 1 (records_from u q).items;
                split = upto_split u us (ready_sound d ds u us y) q t.leads
                    ∙ ap (λ (xs : List (List Field)). records_up_to u us q ++ xs) (sound_first u q sound_here h);
                number = (let c = t.counted in omega arith);
                refusal = refusal;
                before = f;
              }) in
              record {
                came = sym (ap (λ (c : Ran (Unit {0})). judged_by (in_update c)) g);
                flags = λ n. absurd (let o : ◌≡◌ {A = ℕ} 0 1 = cc in omega arith);
              }

          -- it is not, and its flag is raised
          module _ (z : r.at ≡ q → ⊥) (long : 400000 ≤ length v) (v2 : List ℕ) (m : Marked v look.key v2) where
            one : records_up_to u us (q + look.len) ≡ records_up_to u us q ++ (record_here u q ∷ [])
            one = upto_one u us (ready_sound d ds u us y) q t.leads look.len look.key (sym en ∙ x)

            keys_one : keys_up_to u us (q + look.len) ≡ keys_up_to u us q ++ (look.key ∷ [])
            unfolding each
            keys_one = ap (each key_of) one ∙ each_append key_of (records_up_to u us q) (record_here u q ∷ []) ∙ ap (λ (k : ℕ). keys_up_to u us q ++ (k ∷ [])) meets.numbered

            on : q < r.at
            on = let a = b.0.ahead in omega arith

            pub verdicts_next : Verdicts d ds u us (q + look.len) (j + 1) r v2
            verdicts_next = record {
              leads = leads_then t.leads (over (sym en ∙ x) here);
              judging = record {
                leads = b.0.leads;
                ahead =
                    leads_up
                    (leads_past sound_here (sym en ∙ x) (leads_on (ready_sound d ds u us y) t.leads b.0.leads (omega (arith, on))) on)
                    (rest_sound u (q + look.len) meets.rest meets.inside y.short.new);
                through = λ k i. which k (listed k (keys_up_to u us q)) refl (sym (listed_more k look.key (keys_up_to u us q)) ∙ ap (listed k) (sym keys_one) ∙ i);
                ends = b.0.ends;
              };
              flags =
                  subst (λ (l : List ℕ). Flags l (flag_area v2)) (sym keys_one)
                  (flags_more (keys_up_to u us q) (flag_area v) (flag_area v2) look.key (area_long v long)
                  (subst (Flags (keys_up_to u us q)) (sym (flags_kept w v b.2)) t.flags) m.flags);
              counted = (let c = t.counted in omega (arith, ap length one, length-append (records_up_to u us q) (record_here u q ∷ [])));
              small = (let c = t.small in let l = meets.long in omega arith);
            }
              where
                which : (k : ℕ) (c : Bool) → listed k (keys_up_to u us q) ≡ c → either (listed k (keys_up_to u us q)) (eqb look.key k) ≡ true → Through d ds u us r.at k
                which k true g i = b.0.through k g
                which k false g i = subst (Through d ds u us r.at) (eqb-true look.key k (sym (ap (λ (c : Bool). either c (eqb look.key k)) g) ∙ i)) b.1
