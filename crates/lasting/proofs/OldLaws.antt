-- Laws of an old record on the way to the result. Assumes nothing.
use Prim.Native.Nat.{ℕ, ◌+◌, ◌-◌, ◌/◌, ◌%◌, ◌^◌, ◌≤◌, ◌<◌}
use mathlib.Core.Path.{◌≡◌, refl, sym, ap, subst, ◌∙◌}
use mathlib.Core.Bool.{Bool, true, false, not}
use mathlib.Core.Option.{Option, some}
use mathlib.Core.List.{List, [], ◌∷◌, ◌++◌}
use native.Mathlib.Omega.{arith}
use borrow.Author.Tests.{eq-eqb, ne_eqb, not-true}
use lib.ListN.{length, drop, length-take, length-drop}
use Rattle.std.specs.Prelude.{Option as StdOption, Result}
use Rattle.base.specs.Check.{Check, ok, pass}
use Rattle.base.specs.declared.Fault.{Fault}
use Rattle.base.specs.Walk.{Got}
use Rattle.base.specs.Lists.{gather, Each}
use Rattle.skeleton.specs.File.{Field, records_from}
use Rattle.skeleton.specs.Place.{between, fields_at}
use Rattle.skeleton.specs.Record.{record_at}
use Rattle.skeleton.specs.Shape.{Bounded}
use Rattle.skeleton.specs.declared.directory.Shape.{Shape}
use Rattle.skeleton.proofs.RecordLaws.{Right, right}
use Rattle.skeleton.proofs.FileLaws.{records_more}
use Rattle.skeleton.proofs.ReadLaws.{bytes_between}
use Rattle.fields.specs.Valid.{Bytes}
use Rattle.rules.specs.Associations.{field_keys}
use Rattle.rules.specs.Record.{Rec, rec_of, key_of as key_in_rules}
use Rattle.rules.specs.Written.{written_fields, written_length, number12}
use Rattle.rules.specs.declared.Kind.{Kind}
use Rattle.rules.proofs.LengthLaws.{short_record}
use Rattle.sequence.specs.Keyed.{Has, find, Once}
use Rattle.sequence.specs.History.{history}
use Rattle.sequence.specs.Order.{named, deleted}
use Rattle.sequence.specs.Stream.{kept_of}
use Rattle.sequence.proofs.Lists.{each_find}
use Rattle.sequence.proofs.Arms.{kept_kind, kept_deleted, kept_stays, kept_untouched}
use Rattle.updates.specs.Acts.{place_of, chart}
use Rattle.updates.specs.Accepted.{Writable}
use Rattle.updates.proofs.Acted.{lawful}
use Rattle.sound.specs.Sound.{SoundRec}
use Rattle.stock.specs.Stored.{Stored}
use Rattle.stock.specs.Stock.{rec_by, rec_in, stock_from}
use Rattle.stock.proofs.StockLaws.{stock_here, stock_next}
use Rattle.keys.specs.Bits.{flag_of}
use Rattle.keys.specs.Listed.{keys_from, listed}
use Rattle.keys.specs.Numbered.{number_of, Ranged}
use Rattle.keys.proofs.FirstLaws.{first_key}
use Rattle.keys.proofs.NumberLaws.{number_inj}
use Rattle.references.specs.Readable.{all_readable}
use Rattle.writing.specs.House.{in_house_form}
use Rattle.writing.proofs.BytesLaws.{bytes_fields}
use Rattle.writing.proofs.WrittenLaws.{written_passed}
use Rattle.version.specs.Areas.{flag_area}
use Rattle.version.specs.Present.{HeldAs, ChangedTo, FlagsKept}
use Rattle.version.specs.declared.Version.{Version}
use Rattle.composing.specs.Acts.{deleted_from}
use Rattle.composing.specs.Made.{Carries, CarriesTied}
use Rattle.composing.specs.Tied.{TiedIn}
use Rattle.composing.proofs.KnownLaws.{deleted_known}
use Rattle.composing.proofs.ResultLaws.{kept_some, history_sound}
use Rattle.history.specs.Here.{record_here}
use Rattle.history.specs.Played.{Playing, Played}
use Rattle.history.proofs.FlagLaws.{flags_clear, flags_kept}
use Rattle.history.proofs.HereLaws.{here_is, Known, known_stored}
use Rattle.history.proofs.FindingLaws.{said}
use Rattle.lasting.specs.Whole.{Whole, Old}
use Rattle.lasting.specs.Step.{Stepped}
use Rattle.lasting.specs.Stays.{Replayable, Replayed, step_by, Stays, LastStep, SameStep, OldStep}
use Rattle.lasting.specs.declared.Step.{Step}
use Rattle.lasting.specs.declared.Step.TheVariants.{Nothing}
use Rattle.lasting.proofs.WalkLaws.{take_records}
use Rattle.lasting.proofs.WholeLaws.{rest_sendable, whole_known, whole_fine, whole_kept}
use Rattle.lasting.proofs.TiedLaws.{tied_on, tied_first}
use Rattle.lasting.proofs.NamingLaws.{place_is, named_listed, once_there}
use Rattle.lasting.proofs.ReadableLaws.{stored_readable}
use Rattle.lasting.proofs.StepLaws.{made_step, stepped_as, step_flags}

module _ (d : List ℕ) (ds : ℕ) (t : List ℕ) (n : ℕ) (map u : List ℕ) (us : ℕ) (w : List ℕ) (x : Whole d ds t n map u us w)
    (p len : ℕ) (h : Shape) (key : ℕ) (o : Old d ds p len h key) where
  -- its fields, what they say, and the update's records
  abbrev fields : List Field
  fields = fields_at (between d p (p + len)) h 24

  abbrev rec : Rec
  rec = rec_in fields

  abbrev items : List (List Field)
  items = (records_from u us).items

  whole : Right d p (record { len = len; shape = h })
  whole = right d p (record_at d p) refl (record { len = len; shape = h }) o.there

  stored : (k : Kind) × Stored k fields
  stored = stock_here d p o.stock o.inside (record_at d p) refl (record { len = len; shape = h }) o.there

  known : Known stored.0 fields
  known = known_stored stored.0 fields stored.1

  as_kind : rec ≡ rec_of stored.0 fields
  unfolding rec_by
  as_kind = ap (λ (m : Option Kind). rec_by m fields) known.kind

  -- ---- its key

  ranged : Ranged (key_in_rules rec)
  ranged = (said stored.0 fields stored.1).ranged

  number : number_of (key_in_rules rec) ≡ key
  number = sym (said stored.0 fields stored.1).number ∙ sym (first_key d p len h whole.walked known.keyed.some) ∙ o.number

  placed : place_of (key_in_rules rec) ≡ key / 4294967296
  placed = place_is (key_in_rules rec) ranged ∙ ap (λ (m : ℕ). m / 4294967296) number

  -- ---- it is the one that stands under its key, and it is sound and can be written

  split : o.before ++ (rec ∷ stock_from d (p + len)) ≡ stock_from d ds
  split =
      ap (λ (l : List Rec). o.before ++ l) (sym (stock_next d p o.stock o.inside (record_at d p) refl (record { len = len; shape = h }) o.there))
      ∙ o.split

  found : find chart (key_in_rules rec) (stock_from d ds) ≡ some rec
  found =
      subst (λ (l : List Rec). find chart (key_in_rules rec) l ≡ some rec) split
      (once_there o.before rec (stock_from d (p + len)) (subst (Once chart) (sym split) x.ready.once))

  has : (Q : Rec → Type 0) → Each Q (stock_from d ds) → Q rec
  has Q e = subst (Has chart Q) found (each_find chart Q (key_in_rules rec) (stock_from d ds) e)

  -- ---- what the update records do with it

  gone_is : deleted chart (key_in_rules rec) items ≡ deleted_from u us key
  unfolding deleted_from
  gone_is = deleted_known key (key_in_rules rec) ranged number items (whole_known d ds t n map u us w x)

  unnamed : flag_of (flag_area w) (key % 111997) ≡ false → named chart (key_in_rules rec) items ≡ false
  unfolding keys_from
  unnamed e =
      named_listed (key_in_rules rec) ranged items (whole_known d ds t n map u us w x)
      ∙ ap (λ (m : ℕ). listed m (keys_from u us)) number
      ∙ flags_clear (keys_from u us) (flag_area w) key x.flags e

  -- ---- `make_old`, its ways out; q is the kind that is asked for

  module _ (sure : Bool) (q to : ℕ) (before : List ℕ) where
    -- the record is this step, and the workspace is v then
    abbrev Done : List ℕ → List ℕ → Step → Type 0
    Done out v s = Stepped d ds u us (flag_area w) sure (kept_of chart q items rec) to before out s × FlagsKept w v

    pub old_other : (key / 4294967296 ≡ q → ⊥) → Done before w Nothing
    unfolding Stepped
    old_other z = ((kept_kind chart q items rec (ne_eqb (place_of (key_in_rules rec)) q (λ e. z (sym placed ∙ e))), refl), refl)

    pub old_gone : (g : Bool) → g ≡ deleted_from u us key → g ≡ true → Done before w Nothing
    unfolding Stepped
    old_gone g eg z = ((kept_deleted chart q items rec (gone_is ∙ sym eg ∙ z), refl), refl)

    module _ (e : key / 4294967296 ≡ q) (out : List ℕ) (s : Step) where
      pub old_same : (f : Bool) → f ≡ flag_of (flag_area w) (key % 111997) → not f ≡ true → SameStep d ds u us w sure to before out p len h s → Done out w s
      unfolding SameStep
      old_same f ef z y = (
        stepped_as d ds u us (flag_area w) sure to before out (rec ∷ []) (kept_of chart q items rec)
            (kept_untouched chart q items rec (eq-eqb (place_of (key_in_rules rec)) q (placed ∙ e)) (unnamed (sym ef ∙ not-true f z)))
            s (y key o),
        refl,
      )

      pub old_played : (v : List ℕ) → OldStep d ds u us w sure to before out p key v s → Done out v s
      old_played v y = (subst (λ (k : ℕ). Stepped d ds u us (flag_area w) sure (kept_of chart k items rec) to before out s) e (y.made len h o), y.flags)

  -- ---- `untouched`

  pub old_inside : p + len ≤ length d
  old_inside = whole.inside

  pub old_word : p + len < 2 ^ 64
  old_word = let i = whole.inside in let l = x.ready.short.old in omega arith

  pub old_bounded : Bounded h
  old_bounded = whole.bounded

  pub old_small : length (between d p (p + len)) ≤ 16777216
  old_small = let l = x.ready.short.old in omega (arith, length-take (p + len - p) (drop p d), length-drop p d)

  pub old_readable : all_readable fields ≡ true
  old_readable = stored_readable stored.0 fields stored.1

  -- the dataset has what it names
  old_tied : TiedIn d ds (gather field_keys fields)
  old_tied =
      tied_first d ds p fields (records_from d (p + len)).items
      (ap (λ (g : Got (List Field)). g.items) (records_more d p o.inside (record_at d p) refl (record { len = len; shape = h }) o.there))
      (tied_on d ds o.leads x.laid.sound x.tied)

  module _ (bytes : Bytes d) where
    house : written_fields (rec_of stored.0 fields) ≡ in_house_form true fields
    house =
        written_passed 0 fields stored.0 (bytes_fields (between d p (p + len)) h 24 (bytes_between d p (p + len) bytes))
        stored.1.four stored.1.five stored.1.six

    writes : number12 (written_fields rec) ≡ pass
    writes = has Writable x.ready.writable

    pub old_short : written_length (in_house_form true fields) ≤ 99999
    old_short = subst (λ (fs : List Field). written_length fs ≤ 99999) (ap written_fields as_kind ∙ house) (short_record (written_fields rec) writes)

    pub old_carried : (sure : Bool) (f : List ℕ) (to : ℕ) (before out : List ℕ) (m : StdOption ℕ) → Carries d ds u us f sure fields to before out m → (s : Step) → s ≡ step_by m
        → Stepped d ds u us f sure (rec ∷ []) to before out s
    unfolding Carries
    old_carried sure f to before out m c s es =
        stepped_as d ds u us f sure to before out (rec_of stored.0 fields ∷ []) (rec ∷ []) (ap (λ (r : Rec). r ∷ []) as_kind) s
        (subst (λ (y : Step). Stepped d ds u us f sure (rec_of stored.0 fields ∷ []) to before out y) (sym es)
        (made_step d ds u us f sure to before out (rec_of stored.0 fields) (subst (λ (r : Rec). number12 (written_fields r) ≡ pass) as_kind writes) m
        (c stored.0 (subst SoundRec as_kind (has SoundRec x.sound)) house)))

  -- ---- `played`

  here : record_here d p ≡ fields
  here = here_is d p o.inside (record_at d p) refl (record { len = len; shape = h }) o.there

  writable_here : Writable (rec_in (record_here d p))
  writable_here = subst (λ (fs : List Field). Writable (rec_in fs)) (sym here) (has Writable x.ready.writable)

  pub old_replayable : Replayable d u us p key
  old_replayable = record {
    short = x.ready.short;
    stock = o.stock;
    inside = o.inside;
    rest = x.ready.rest;
    start = x.ready.inside;
    writable = writable_here;
    under = λ k r e. ap (λ (fs : List Field). key_in_rules (rec_in fs)) here ∙ number_inj (key_in_rules rec) k ranged r (e ∙ sym number);
  }

  -- w₂ and c are what the update records made of it
  module _ (w₂ : List ℕ) (c : Result (StdOption Version) Fault) (y : Replayed d u us p key w w₂ c) (kept : deleted_from u us key ≡ false) where
    loaded : HeldAs d u y.middle y.first (some rec)
    loaded = subst (λ (fs : List Field). HeldAs d u y.middle y.first (some (rec_in fs))) here (y.loaded u writable_here)

    ends : (s : Rec) × (history chart (key_in_rules rec) items (some rec) ≡ ok (some s))
    ends = kept_some chart lawful 3 (stock_from d ds) items x.ready.once (whole_fine d ds t n map u us w x) rec found (gone_is ∙ kept)

    came : ChangedTo d u w₂ (ok (some ends.0)) c
    came =
        subst (λ (a : Check (Option Rec)). ChangedTo d u w₂ a c)
        (ap (λ (l : List (List Field)). history chart (key_in_rules rec) l (some rec)) (take_records u us) ∙ ends.1)
        (y.played.came (key_in_rules rec) ranged number (some rec) loaded refl)

    sound : Bytes u → SoundRec ends.0
    sound b = history_sound (key_in_rules rec) items (some rec) (some ends.0) (rest_sendable u us x.ready.rest b) refl (has SoundRec x.sound) ends.1

    -- what the record's last step asks for
    pub old_stays : Bytes u → length w₂ ≡ length w → Whole d ds t n map u us w₂ × Stays d u w₂ c
    old_stays b l = (whole_kept d ds t n map u us w x w₂ y.kept l, record { rec = ends.0; sound = sound b; came = came })

    pub old_last : (sure : Bool) → Bytes u → (to : ℕ) (before out : List ℕ) (s : Step) → LastStep d ds u us w₂ sure to before out c s
        → Stepped d ds u us (flag_area w) sure (kept_of chart (key / 4294967296) items rec) to before out s
    unfolding LastStep
    old_last sure b to before out s l =
        stepped_as d ds u us (flag_area w) sure to before out (ends.0 ∷ []) (kept_of chart (key / 4294967296) items rec)
        (kept_stays chart (key / 4294967296) items rec ends.0 (eq-eqb (place_of (key_in_rules rec)) (key / 4294967296) placed) (gone_is ∙ kept) ends.1)
        s (subst (λ (f : List ℕ). Stepped d ds u us f sure (ends.0 ∷ []) to before out s) (flags_kept w w₂ y.kept) (l ends.0 (sound b) came))

-- ---- `replay`

module _ (d u : List ℕ) (us p key : ℕ) (r : Replayable d u us p key) (v : List ℕ) (pr : StdOption Version)
    (g : (c : List ℕ) → Writable (rec_in (record_here d p)) → HeldAs d c v pr (some (rec_in (record_here d p)))) where
  pub replay_playing : Playing d u v pr key
  replay_playing = record { what = some (rec_in (record_here d p)); held = g u r.writable; under = r.under }

  pub replayed : (w : List ℕ) → FlagsKept w v → (w₂ : List ℕ) (c : Result (StdOption Version) Fault) → Played d u us (length u) v pr key w₂ c → Replayed d u us p key w w₂ c
  replayed w k w₂ c y = record { middle = v; first = pr; loaded = g; played = y; kept = y.kept ∙ k }

module _ (d : List ℕ) (ds : ℕ) (t : List ℕ) (n : ℕ) (map u : List ℕ) (us : ℕ) (w : List ℕ) (x : Whole d ds t n map u us w) (sure : Bool) (to : ℕ) (before out : List ℕ) (s : Step) (p : ℕ) where
  -- f is the workspace's flags
  pub same_step : Bytes d → (f : List ℕ) → f ≡ flag_area w → (len : ℕ) (h : Shape) (m : StdOption ℕ) → CarriesTied u us f sure (fields_at (between d p (p + len)) h 24) to before out m
      → s ≡ step_by m → SameStep d ds u us w sure to before out p len h s
  unfolding SameStep CarriesTied
  same_step bytes f e len h m c es key o =
      step_flags d ds u us f w e sure to before out (rec_in (fields_at (between d p (p + len)) h 24) ∷ []) s
      (old_carried d ds t n map u us w x p len h key o bytes sure f to before out m (c d ds (old_tied d ds t n map u us w x p len h key o)) s es)

  pub old_step : (key : ℕ) (w₂ : List ℕ) (c : Result (StdOption Version) Fault) → Replayed d u us p key w w₂ c → deleted_from u us key ≡ false → Bytes u
      → LastStep d ds u us w₂ sure to before out c s → OldStep d ds u us w sure to before out p key w₂ s
  old_step key w₂ c y kept b l = record { made = λ len h o. old_last d ds t n map u us w x p len h key o w₂ c y kept sure b to before out s l; flags = y.kept }
