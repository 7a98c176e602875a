-- Laws of an update record that inserts, on the way to the result. Assumes nothing.
use Prim.Native.Nat.{ℕ, ◌+◌, ◌/◌, ◌^◌, ◌≤◌, ◌<◌}
use mathlib.Core.Path.{◌≡◌, refl, sym, ap, subst, ◌∙◌}
use mathlib.Core.Bool.{Bool, true, false, not}
use mathlib.Core.Option.{Option, some, none}
use mathlib.Core.List.{List, [], ◌∷◌, ◌++◌}
use native.Mathlib.Omega.{arith}
use borrow.Author.Tests.{eq-eqb, ne_eqb, not-true}
use lib.Dec.{eqb}
use lib.ListN.{length}
use Rattle.std.specs.Prelude.{Option as StdOption, None, Result}
use Rattle.base.specs.Check.{Check, ok}
use Rattle.base.specs.declared.Fault.{Fault}
use Rattle.base.specs.Walk.{Got}
use Rattle.base.specs.Lists.{Each}
use Rattle.skeleton.specs.File.{Field, records_from}
use Rattle.skeleton.specs.Place.{between, fields_at}
use Rattle.skeleton.specs.Record.{record_at, stated_at}
use Rattle.skeleton.specs.Shape.{Bounded}
use Rattle.skeleton.specs.declared.directory.Shape.{Shape}
use Rattle.skeleton.proofs.RecordLaws.{Right, right}
use Rattle.skeleton.proofs.FileLaws.{records_more}
use Rattle.skeleton.proofs.AgainLaws.{again, records_some}
use Rattle.fields.specs.Valid.{Bytes}
use Rattle.rules.specs.Record.{Rec}
use Rattle.sequence.specs.History.{history}
use Rattle.sequence.specs.Order.{is_insert, deleted}
use Rattle.sequence.specs.Stream.{joined_of}
use Rattle.sequence.proofs.Arms.{joined_not, joined_kind, joined_deleted, joined_stays}
use Rattle.updates.specs.Acts.{place_of, chart}
use Rattle.updates.proofs.Acted.{lawful}
use Rattle.sound.specs.Sound.{SoundRec}
use Rattle.sound.proofs.Changed.{Sendable}
use Rattle.stock.specs.Stock.{stock_from}
use Rattle.incoming.specs.Fitting.{Single, Rest}
use Rattle.incoming.proofs.FittingLaws.{rest_here, rest_more}
use Rattle.keys.specs.Listed.{key_of}
use Rattle.keys.specs.Key.{key_at}
use Rattle.keys.specs.Look.{look_at, looked}
use Rattle.keys.specs.Numbered.{number_of, Ranged}
use Rattle.keys.proofs.FirstLaws.{first_key}
use Rattle.keys.specs.Places.{Leads, here as there, over}
use Rattle.keys.proofs.PlaceLaws.{leads_then}
use Rattle.version.specs.Areas.{flag_area}
use Rattle.version.specs.Present.{HeldAs, ChangedTo, FlagsKept}
use Rattle.version.specs.declared.Version.{Version}
use Rattle.composing.specs.Acts.{ruin_with, deleted_from}
use Rattle.composing.proofs.KnownLaws.{known_right, deleted_known}
use Rattle.composing.proofs.ResultLaws.{joined_some, history_sound}
use Rattle.history.specs.Here.{named_in}
use Rattle.history.specs.Played.{Playing, Played}
use Rattle.history.proofs.FlagLaws.{flags_kept}
use Rattle.history.proofs.HereLaws.{known_sent}
use Rattle.history.proofs.PlayingLaws.{single_named}
use Rattle.lasting.specs.Whole.{Whole, New}
use Rattle.lasting.specs.Step.{Stepped}
use Rattle.lasting.specs.Stays.{Lasting, Stays, LastStep, NewStep}
use Rattle.lasting.specs.declared.Step.{Step}
use Rattle.lasting.specs.declared.Step.TheVariants.{Nothing}
use Rattle.lasting.proofs.WalkLaws.{take_records}
use Rattle.lasting.proofs.WholeLaws.{singles_known, rest_sendable, whole_fine, whole_kept}
use Rattle.lasting.proofs.NamingLaws.{place_is, insert_one}
use Rattle.lasting.proofs.StepLaws.{stepped_as}

-- nothing stands in front of an insert
pub absent_playing : (d u w : List ℕ) (key : ℕ) → Playing d u w None key
unfolding HeldAs
absent_playing d u w key = record { what = none; held = refl; under = λ k r e. tt }

module _ (d : List ℕ) (ds : ℕ) (t : List ℕ) (n : ℕ) (map u : List ℕ) (us : ℕ) (w : List ℕ) (x : Whole d ds t n map u us w)
    (p len : ℕ) (h : Shape) (key : ℕ) (o : New u us p len h key) where
  -- its fields, and the later update records
  abbrev fields : List Field
  fields = fields_at (between u p (p + len)) h 24

  abbrev later : List (List Field)
  later = (records_from u (p + len)).items

  whole : Right u p (record { len = len; shape = h })
  whole = right u p (record_at u p) refl (record { len = len; shape = h }) o.there

  single : Single fields
  single = rest_here u p o.rest o.inside (record_at u p) refl (record { len = len; shape = h }) o.there

  behind : Rest u (p + len)
  behind = rest_more u p o.rest o.inside (record_at u p) refl (record { len = len; shape = h }) o.there

  here : (records_from u p).items ≡ fields ∷ later
  here = ap (λ (g : Got (List Field)). g.items) (records_more u p o.inside (record_at u p) refl (record { len = len; shape = h }) o.there)

  split : (records_from u us).items ≡ o.before ++ (fields ∷ later)
  split = sym o.split ∙ ap (λ (l : List (List Field)). o.before ++ l) here

  -- ---- its key

  ranged : Ranged (named_in fields)
  ranged = (single_named fields single).ranged

  key_is : key_of fields ≡ key
  key_is = sym (first_key u p len h whole.walked (known_sent single.kind fields single.right).keyed.some) ∙ o.number

  number : number_of (named_in fields) ≡ key
  number = sym (single_named fields single).number ∙ key_is

  placed : place_of (named_in fields) ≡ key / 4294967296
  placed = place_is (named_in fields) ranged ∙ ap (λ (m : ℕ). m / 4294967296) number

  -- ---- what it does, and the later ones

  insert_is : is_insert (chart.act fields) ≡ eqb (ruin_with key fields) 1
  insert_is =
      ap is_insert (known_right fields single.kind single.right).act ∙ insert_one (ruin_with (key_of fields) fields)
      ∙ ap (λ (k : ℕ). eqb (ruin_with k fields) 1) key_is

  gone_is : deleted chart (named_in fields) later ≡ deleted_from u (p + len) key
  unfolding deleted_from
  gone_is = deleted_known key (named_in fields) ranged number later (singles_known later behind.singles)

  -- ---- `make_new`, its ways out; q is the kind that is asked for

  pub new_bounded : Bounded h
  new_bounded = whole.bounded

  pub new_inside : p + len ≤ length u
  new_inside = whole.inside

  pub new_word : p + len < 2 ^ 64
  new_word = let i = whole.inside in let l = x.ready.short.new in omega arith

  pub new_behind : Leads u us (p + len)
  unfolding look_at
  new_behind =
      let e : stated_at u p ≡ record_at u p = again u p (records_some u p o.inside o.rest.ended) (stated_at u p) refl in
      let y : look_at u p ≡ looked len (key_at u (p + h.base)) = rw (e ∙ o.there) in
      leads_then o.leads (over y there)

  -- it inserts, and none of the later ones deletes
  abbrev Lasts : Type 0
  Lasts = (eqb (ruin_with key fields) 1 ≡ true) × (deleted_from u (p + len) key ≡ false)

  pub new_lasting : Lasts → Lasting u us p key
  new_lasting l = record { len = len; shape = h; there = o; inserts = l.0; kept = l.1 }

  module _ (sure : Bool) (q to : ℕ) (before : List ℕ) where
    -- the record is this step, and the workspace is v then
    abbrev Done : List ℕ → List ℕ → Step → Type 0
    Done out v s = Stepped d ds u us (flag_area w) sure (joined_of chart q fields later) to before out s × FlagsKept w v

    pub new_other : (key / 4294967296 ≡ q → ⊥) → Done before w Nothing
    unfolding Stepped
    new_other z = ((joined_kind chart q fields later (ne_eqb (place_of (named_in fields)) q (λ e. z (sym placed ∙ e))), refl), refl)

    pub new_not : (i : Bool) → i ≡ eqb (ruin_with key fields) 1 → not i ≡ true → Done before w Nothing
    unfolding Stepped
    new_not i ei z = ((joined_not chart q fields later (insert_is ∙ sym ei ∙ not-true i z), refl), refl)

    pub new_gone : (g : Bool) → g ≡ deleted_from u (p + len) key → g ≡ true → Done before w Nothing
    unfolding Stepped
    new_gone g eg z = ((joined_deleted chart q fields later (gone_is ∙ sym eg ∙ z), refl), refl)

    pub new_joined : key / 4294967296 ≡ q → Lasts → (out : List ℕ) (s : Step) (v : List ℕ) → NewStep d ds u us w sure to before out p key v s → Done out v s
    unfolding new_lasting
    new_joined e l out s v y = (subst (λ (k : ℕ). Stepped d ds u us (flag_area w) sure (joined_of chart k fields later) to before out s) e (y.made (new_lasting l)), y.flags)

  -- ---- `joined`: w₂ and c are what it and the later ones made of nothing

  module _ (w₂ : List ℕ) (c : Result (StdOption Version) Fault) (y : Played d u p (length u) w None key w₂ c)
      (inserts : eqb (ruin_with key fields) 1 ≡ true) (kept : deleted_from u (p + len) key ≡ false) where
    ends : (s : Rec) × (history chart (named_in fields) (fields ∷ later) none ≡ ok (some s))
    ends =
        joined_some chart lawful 3 (stock_from d ds) (records_from u us).items x.ready.once (whole_fine d ds t n map u us w x)
        o.before fields later split (insert_is ∙ inserts) (gone_is ∙ kept)

    came : ChangedTo d u w₂ (ok (some ends.0)) c
    unfolding HeldAs
    came =
        subst (λ (a : Check (Option Rec)). ChangedTo d u w₂ a c)
        (ap (λ (l : List (List Field)). history chart (named_in fields) l none) (take_records u p ∙ here) ∙ ends.1)
        (y.came (named_in fields) ranged number none refl tt)

    sound : Bytes u → SoundRec ends.0
    sound b =
        history_sound (named_in fields) (fields ∷ later) none (some ends.0) (subst (Each Sendable) here (rest_sendable u p o.rest b)) tt tt ends.1

    -- what the record's last step asks for
    pub new_stays : Bytes u → length w₂ ≡ length w → Whole d ds t n map u us w₂ × Stays d u w₂ c
    new_stays b l = (whole_kept d ds t n map u us w x w₂ y.kept l, record { rec = ends.0; sound = sound b; came = came })

    pub new_last : (sure : Bool) → Bytes u → (to : ℕ) (before out : List ℕ) (s : Step) → LastStep d ds u us w₂ sure to before out c s
        → Stepped d ds u us (flag_area w) sure (joined_of chart (key / 4294967296) fields later) to before out s
    unfolding LastStep
    new_last sure b to before out s l =
        stepped_as d ds u us (flag_area w) sure to before out (ends.0 ∷ []) (joined_of chart (key / 4294967296) fields later)
        (joined_stays chart (key / 4294967296) fields later ends.0 (insert_is ∙ inserts) (eq-eqb (place_of (named_in fields)) (key / 4294967296) placed) (gone_is ∙ kept) ends.1)
        s (subst (λ (f : List ℕ). Stepped d ds u us f sure (ends.0 ∷ []) to before out s) (flags_kept w w₂ y.kept) (l ends.0 (sound b) came))

pub new_step : (d : List ℕ) (ds : ℕ) (t : List ℕ) (n : ℕ) (map u : List ℕ) (us : ℕ) (w : List ℕ) → Whole d ds t n map u us w → (sure : Bool) (to : ℕ) (before out : List ℕ) (s : Step) (p key : ℕ)
    → (w₂ : List ℕ) (c : Result (StdOption Version) Fault) → Played d u p (length u) w None key w₂ c → Bytes u → LastStep d ds u us w₂ sure to before out c s → NewStep d ds u us w sure to before out p key w₂ s
new_step d ds t n map u us w x sure to before out s p key w₂ c y b z =
    record { made = λ l. new_last d ds t n map u us w x p l.len l.shape key l.there w₂ c y l.inserts l.kept sure b to before out s z; flags = y.kept }
