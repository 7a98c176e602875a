-- Laws of the course that the update records which name a key take. Assumes nothing.
use mathlib.Core.Path.{◌≡◌, refl, sym, ap, ◌∙◌, subst}
use mathlib.Core.Bool.{true, false}
use mathlib.Core.Option.{Option}
use mathlib.Core.List.{List, [], ◌∷◌, ◌++◌, append-nil, append_assoc}
use Prim.Native.Nat.{ℕ, ◌+◌, ◌-◌, ◌≤◌, ◌<◌}
use native.Mathlib.Omega.{arith}
use borrow.Author.Tests.{eq-eqb}
use lib.ListN.{length, take, drop}
use lib.Seq.{take_all}
use Rattle.std.specs.Prelude.{Option as StdOption, Some, None, Result, Ok, Err}
use Rattle.base.specs.Check.{Check, ok, bind}
use Rattle.base.specs.declared.Fault.{Fault}
use Rattle.base.specs.Lists.{each, Each}
use Rattle.base.proofs.EachLaws.{each_parts}
use Rattle.base.specs.Keys.{same}
use Rattle.base.specs.Walk.{Got}
use Rattle.skeleton.specs.File.{Field, records_from}
use Rattle.skeleton.proofs.FileLaws.{records_over}
use Rattle.skeleton.proofs.ReadLaws.{few_records}
use Rattle.rules.specs.Record.{Rec}
use Rattle.sequence.specs.Keyed.{Under}
use Rattle.sequence.specs.History.{history}
use Rattle.sequence.proofs.Arms.{history_none, history_next, history_no}
use Rattle.sequence.proofs.Local.{history_append, history_own, history_under}
use Rattle.updates.specs.Acts.{chart}
use Rattle.updates.proofs.Acted.{lawful}
use Rattle.incoming.specs.Fitting.{Single, Rest}
use Rattle.keys.specs.Listed.{key_of, listed}
use Rattle.keys.specs.Look.{look_at, looked, Sound}
use Rattle.keys.specs.Numbered.{number_of, Ranged}
use Rattle.keys.specs.declared.look.Look.{Look}
use Rattle.keys.proofs.SoundLaws.{sound_nothing}
use Rattle.keys.proofs.NumberLaws.{same_number, number_inj}
use Rattle.keys.specs.Places.{Leads, here, over}
use Rattle.sorting.specs.Places.{Next}
use Rattle.keys.proofs.PlaceLaws.{same_look, leads_then}
use Rattle.sorting.proofs.PlaceLaws.{next_up}
use Rattle.version.specs.Present.{HeldAs, ChangedTo, FlagsKept}
use Rattle.version.specs.declared.Version.{Version}
use Rattle.history.specs.Here.{record_here, named_in}
use Rattle.history.specs.Ready.{Short}
use Rattle.history.specs.Played.{Acting, Acted, Playing, Played, EndsAt, Coursed}
use Rattle.history.specs.declared.playing.Course.{Course}
use Rattle.history.proofs.UpToLaws.{sound_first}
use Rattle.history.proofs.PlayingLaws.{Met, met, none_named, rest_sound}

-- ---- histories

-- update records after others that were accepted
pub history_then : (k : List ℕ) (xs ys : List (List Field)) (o p : Option Rec) → history chart k xs o ≡ ok p → history chart k (xs ++ ys) o ≡ history chart k ys p
unfolding bind
history_then k xs ys o p e = history_append chart lawful k xs ys o ∙ rw e refl

-- update records that name other keys change nothing
pub history_past : (k : List ℕ) → Ranged k → (xs : List (List Field)) (o : Option Rec) → Each Single xs → listed (number_of k) (each key_of xs) ≡ false → history chart k xs o ≡ ok o
history_past k r xs o s n = history_none chart k xs o (none_named xs s k r n)

-- ---- `follow`

-- what stands under the key k is held, and c is that
pub record Standing (d u w : List ℕ) (p : StdOption Version) (k : List ℕ) (c : Check (Option Rec)) : Type 0 where
  pub what : Option Rec
  pub held : HeldAs d u w p what
  pub under : Under chart k what
  pub same : c ≡ ok what

-- the workspace was w' with p' before the update records from `from` on; those up to q that name the key are played
pub record Underway (d u : List ℕ) (us from key : ℕ) (w' : List ℕ) (p' : StdOption Version) (q : ℕ) (w : List ℕ) (p : StdOption Version) : Type 0 where
  pub rest : Rest u q
  pub sound : Sound u q
  pub leads : Leads u us q
  pub since : Leads u from q
  pub passed : List (List Field)
  pub split : (records_from u from).items ≡ passed ++ (records_from u q).items
  pub playing : Playing d u w p key
  pub answer : (k : List ℕ) → Ranged k → number_of k ≡ key → (o : Option Rec) → HeldAs d u w' p' o → Under chart k o → Standing d u w p k (history chart k passed o)
  pub kept : FlagsKept w' w

-- and the one at q, if there is one, names it
pub record Onto (d u : List ℕ) (us from key : ℕ) (w' : List ℕ) (p' : StdOption Version) (q : ℕ) (w : List ℕ) (p : StdOption Version) : Type 0 where
  pub so_far : Underway d u us from key w' p' q w p
  pub names : q < length u → (len : ℕ) × (look_at u q ≡ looked len key)

module _ (d u : List ℕ) (us from key : ℕ) (w' : List ℕ) (p' : StdOption Version) where
  -- records that name other keys are passed over
  onto : (q r : ℕ) (w : List ℕ) (p : StdOption Version) → Next u key q r → Underway d u us from key w' p' q w p → Onto d u us from key w' p' r w p
  onto q r w p n a = record {
    so_far = record {
      rest = record { ended = n.sound.clean; singles = parts.1 };
      sound = n.sound;
      leads = leads_then a.leads n.leads;
      since = leads_then a.since n.leads;
      passed = a.passed ++ n.skips.skipped;
      split = a.split ∙ ap (λ (xs : List (List Field)). a.passed ++ xs) n.skips.split ∙ sym (append_assoc a.passed n.skips.skipped (records_from u r).items);
      playing = a.playing;
      answer = λ k x e o h z.
          let g = a.answer k x e o h z in
          let none : listed (number_of k) (each key_of n.skips.skipped) ≡ false = ap (λ (i : ℕ). listed i (each key_of n.skips.skipped)) e ∙ n.skips.none in
          record {
            what = g.what;
            held = g.held;
            under = g.under;
            same = history_then k a.passed n.skips.skipped o g.what g.same ∙ history_past k x n.skips.skipped g.what parts.0 none;
          };
      kept = a.kept;
    };
    names = λ h. (let m = n.names h in (m.len, m.look));
  }
    where
      parts : Each Single n.skips.skipped × Each Single (records_from u r).items
      parts = each_parts Single n.skips.skipped (records_from u r).items (subst (Each Single) n.skips.split a.rest.singles)

pub onto_start : (d u : List ℕ) (us from key : ℕ) (w : List ℕ) (p : StdOption Version) → Short d u → Rest u from → from ≤ length u → Leads u us from → Playing d u w p key
    → (r : ℕ) → Next u key from r → Onto d u us from key w p r w p
unfolding history
onto_start d u us from key w p s t i l y r n =
    onto d u us from key w p from r w p n
    (record {
      rest = t;
      sound = rest_sound u from t i s.new;
      leads = l;
      since = here;
      passed = [];
      split = refl;
      playing = y;
      answer = λ k x e o h z. record { what = o; held = h; under = z; same = refl };
      kept = refl;
    })

module _ (d u : List ℕ) (us from key : ℕ) (w' : List ℕ) (p' : StdOption Version) (q : ℕ) (w : List ℕ) (p : StdOption Version) (a : Onto d u us from key w' p' q w p) (s : Short d u) where
  -- the update is over
  pub onto_over : length u ≤ q → Coursed d u from w' p' key w (record { at = q; left = Ok p })
  unfolding EndsAt
  onto_over l = record {
    leads = a.so_far.since;
    sound = a.so_far.sound;
    passed = a.so_far.passed;
    split = a.so_far.split;
    came = λ k x e o h z. (let g = a.so_far.answer k x e o h z in (g.what, g.same, (l, g.held)));
    kept = a.so_far.kept;
  }

  module _ (e : StdOption Look) (en : e ≡ look_at u q) (h : q < length u) where
    pub onto_nothing : e ≡ None → (c : Course) → Coursed d u from w' p' key w c
    onto_nothing x c = absurd (sound_nothing u q a.so_far.sound e en h x)

    module _ (look : Look) (x : e ≡ Some look) where
      meets : Met u q look.len look.key
      meets = met u q a.so_far.rest a.so_far.sound e en look x

      key_is : look.key ≡ key
      key_is = let m = a.names h in (same_look e look.len look.key m.0 key x (en ∙ m.1)).1

      number_is : number_of (named_in (record_here u q)) ≡ key
      number_is = meets.number ∙ key_is

      own : (k : List ℕ) → Ranged k → number_of k ≡ key → k ≡ named_in (record_here u q)
      own k r n = number_inj k (named_in (record_here u q)) r meets.ranged (number_is ∙ sym n)

      hit : (k : List ℕ) → Ranged k → number_of k ≡ key → same (named_in (record_here u q)) k ≡ true
      hit k r n = same_number (named_in (record_here u q)) k meets.ranged r ∙ eq-eqb (number_of k) (number_of (named_in (record_here u q))) (n ∙ sym number_is)

      pub onto_act : Acting d u w p (record_here u q)
      onto_act =
          let y = a.so_far.playing in
          record { what = y.what; held = y.held; under = y.under (named_in (record_here u q)) meets.ranged number_is }

      pub onto_leads : Leads u us (q + look.len)
      onto_leads = leads_then a.so_far.leads (over (sym en ∙ x) here)

      pub onto_word : q + look.len ≤ 16777216
      onto_word = let i = meets.inside in let l = s.new in omega arith

      pub onto_falls : (r : ℕ) → Next u key (q + look.len) r → length u - r < length u - q
      onto_falls r n = let g = next_up (rest_sound u (q + look.len) meets.rest meets.inside s.new) n in let l = meets.long in omega arith

      module _ (v : List ℕ) (c : Result (StdOption Version) Fault) (b : Acted d u w p (record_here u q) v c) where
        changes : (k : List ℕ) → Ranged k → number_of k ≡ key → (o : Option Rec) → HeldAs d u w p o → Under chart k o → ChangedTo d u v (chart.change (record_here u q) o) c
        changes k r n o g z = b.came o g (subst (λ (l : List ℕ). Under chart l o) (own k r n) z)

        -- it is refused
        pub onto_no : (f : Fault) → c ≡ Err f → Coursed d u from w' p' key v (record { at = q; left = Err f })
        unfolding ChangedTo EndsAt
        onto_no f y = record {
          leads = a.so_far.since;
          sound = a.so_far.sound;
          passed = a.so_far.passed;
          split = a.so_far.split;
          came = λ k r n o g z.
              let t = a.so_far.answer k r n o g z in
              let r2 = subst (λ (i : Result (StdOption Version) Fault). ChangedTo d u v (chart.change (record_here u q) t.what) i) y (changes k r n t.what t.held t.under) in
              (t.what, t.same, (h, hit k r n, r2));
          kept = b.kept ∙ a.so_far.kept;
        }

        -- it leaves p2
        module _ (p2 : StdOption Version) (y : c ≡ Ok p2) where
          made : (k : List ℕ) → Ranged k → number_of k ≡ key → (o : Option Rec) → HeldAs d u w p o → Under chart k o
              → Standing d u v p2 k (chart.change (record_here u q) o)
          unfolding ChangedTo history
          made k r n o g z =
              let t = subst (λ (i : Result (StdOption Version) Fault). ChangedTo d u v (chart.change (record_here u q) o) i) y (changes k r n o g z) in
              record {
                what = t.0;
                held = t.2;
                under = history_under chart lawful k (record_here u q ∷ []) o t.0 z (history_next chart k o (record_here u q) [] t.0 (hit k r n) t.1);
                same = t.1;
              }

          moved : Underway d u us from key w' p' (q + look.len) v p2
          moved = record {
            rest = meets.rest;
            sound = rest_sound u (q + look.len) meets.rest meets.inside s.new;
            leads = onto_leads;
            since = leads_then a.so_far.since (over (sym en ∙ x) here);
            passed = a.so_far.passed ++ (record_here u q ∷ []);
            split = a.so_far.split ∙ ap (λ (xs : List (List Field)). a.so_far.passed ++ xs) meets.split
                ∙ sym (append_assoc a.so_far.passed (record_here u q ∷ []) (records_from u (q + look.len)).items);
            playing =
                let y = a.so_far.playing in
                let n = named_in (record_here u q) in
                let t = made n meets.ranged number_is y.what y.held (y.under n meets.ranged number_is) in
                record { what = t.what; held = t.held; under = λ k r e2. subst (λ (l : List ℕ). Under chart l t.what) (sym (own k r e2)) t.under };
            answer = λ k r n o g z.
                let t = a.so_far.answer k r n o g z in
                let m = made k r n t.what t.held t.under in
                record {
                  what = m.what;
                  held = m.held;
                  under = m.under;
                  same = history_then k a.so_far.passed (record_here u q ∷ []) o t.what t.same
                      ∙ history_own chart lawful k (record_here u q) t.what (hit k r n) ∙ m.same;
                };
            kept = b.kept ∙ a.so_far.kept;
          }

          pub onto_next : (r : ℕ) → Next u key (q + look.len) r → Onto d u us from key w' p' r v p2
          onto_next r n = onto d u us from key w' p' (q + look.len) r v p2 n moved

-- ---- `play_all`

module _ (d u : List ℕ) (from : ℕ) (w : List ℕ) (p : StdOption Version) (key : ℕ) (w' : List ℕ) (c : Course) (a : Coursed d u from w p key w' c) where
  all_taken_lem : take (length u) (records_from u from).items ≡ a.passed ++ (records_from u c.at).items
  all_taken_lem = take_all (length u) (records_from u from).items (omega (arith, few_records u from)) ∙ a.split

  pub coursed_played : Played d u from (length u) w p key w' c.left
  unfolding ChangedTo EndsAt
  coursed_played = record {
    came = λ k r n o h z. (let t = a.came k r n o h z in go c.left k o t.0 t.1 t.2);
    kept = a.kept;
  }
    where
      go : (l : Result (StdOption Version) Fault) (k : List ℕ) (o t : Option Rec) → history chart k a.passed o ≡ ok t → EndsAt d u w' c.at k t l
          → ChangedTo d u w' (history chart k (take (length u) (records_from u from).items) o) l
      go (Err f) k o t e x =
          ap (λ (xs : List (List Field)). history chart k xs o)
          (all_taken_lem ∙ ap (λ (xs : List (List Field)). a.passed ++ xs) (sound_first u c.at a.sound x.0))
          ∙ history_then k a.passed (record_here u c.at ∷ drop 1 (records_from u c.at).items) o t e
          ∙ history_no chart k t (record_here u c.at) (drop 1 (records_from u c.at).items) f x.1 x.2
      go (Ok p2) k o t e x = (
        t,
        ap (λ (xs : List (List Field)). history chart k xs o)
            (all_taken_lem ∙ ap (λ (g : Got (List Field)). a.passed ++ g.items) (records_over u c.at x.0) ∙ append-nil a.passed) ∙ e,
        x.1,
      )
