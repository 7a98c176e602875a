-- The five records at the front of a dataset and an update, as they are found. Assumes nothing.
use Prim.Native.Nat.{ℕ, ◌+◌, ◌≤◌}
use mathlib.Core.Path.{◌≡◌, sym, ap, ap₂, ◌∙◌, subst}
use mathlib.Core.List.{List, [], ◌∷◌}
use native.Mathlib.Omega.{arith}
use lib.ListN.{length}
use Rattle.std.specs.Prelude.{Result, Ok}
use Rattle.base.specs.Check.{pass}
use Rattle.base.specs.declared.Fault.{Fault}
use Rattle.base.specs.Lists.{each, Each}
use Rattle.skeleton.specs.File.{Field}
use Rattle.rules.specs.General.{general_record}
use Rattle.rules.specs.Record.{Rec}
use Rattle.rules.specs.Written.{Dataset, written_fields, written_length, number12, written}
use Rattle.rules.specs.Outcome.{done, at, every_record}
use Rattle.rules.specs.File.{writable}
use Rattle.rules.specs.Update.{general}
use Rattle.rules.specs.declared.Mode.TheVariants.{InDataset, InUpdate}
use Rattle.rules.proofs.LengthLaws.{short_record}
use Rattle.rules.proofs.OutcomeLaws.{and_then_inv, at_inv}
use Rattle.sequence.specs.Keyed.{Once}
use Rattle.updates.specs.Acts.{chart}
use Rattle.updates.specs.Streamed.{head_length}
use Rattle.updates.proofs.Results.{read_sorted}
use Rattle.stock.specs.Stock.{stock_from}
use Rattle.updater.specs.Pieces.{There, Cut, Lies, fields_in, Run}
use Rattle.updater.specs.Told.{general_by}
use Rattle.updater.specs.Stages.{sent_general, Opens, Fits, Begun}
use Rattle.updater.specs.declared.front.Piece.{Piece}
use Rattle.updater.proofs.OpensLaws.{dataset_opens, run_there, run_in, cut_end, cut_fields, cut_lies, update_first, update_second}
use Rattle.updater.proofs.StageLaws.{general_long}

-- ---- a dataset that can be written

-- the first of records that passed 12, and the others
every_inv : (n : ℕ) (fs : List Field) (rest : List (List Field)) (t : Unit {0}) → every_record number12 1 n (fs ∷ rest) ≡ done t
    → (number12 fs ≡ pass) × (every_record number12 1 (n + 1) rest ≡ done t)
unfolding every_record
every_inv n fs rest t e =
    let (x, a, b) = and_then_inv (at 1 n (number12 fs)) _ t e in
    (at_inv 1 n (number12 fs) tt a, b)

-- records of the four kinds
every_records : (n : ℕ) (rs : List Rec) (t : Unit {0}) → every_record number12 1 n (each written_fields rs) ≡ done t → Each (λ r. number12 (written_fields r) ≡ pass) rs
unfolding each Each
every_records n [] t e = tt
every_records n (r ∷ rs) t e = let (a, b) = every_inv n (written_fields r) (each written_fields rs) t e in (a, every_records (n + 1) rs t b)

-- each record of a dataset that can be written
pub writable_parts : (d : Dataset) → writable d ≡ done d
    → (written_length d.descriptive ≤ 99999) × (written_length d.systems ≤ 99999) × Each (λ r. number12 (written_fields r) ≡ pass) d.records
unfolding writable written
writable_parts d e =
    let (t, a, _) = and_then_inv (every_record number12 1 1 (written d)) _ d e in
    let (one, b) = every_inv 1 d.descriptive (d.general ∷ d.systems ∷ each written_fields d.records) t a in
    let (_, c) = every_inv 2 d.general (d.systems ∷ each written_fields d.records) t b in
    let (three, rest) = every_inv 3 d.systems (each written_fields d.records) t c in
    (short_record d.descriptive one, short_record d.systems three, every_records 4 d.records t rest)

-- ---- what the records behind the third stand on

module _ (f u : List ℕ) (ds us front : ℕ) (k : Begun f u ds us front) where
  -- each key stands once
  pub begun_once : Once chart (stock_from f ds)
  begun_once = subst (λ (l : List Rec). Once chart l) k.opens.records (read_sorted f k.fits.dataset k.fits.is_read).once

  -- each can be written
  pub begun_writable : Each (λ r. number12 (written_fields r) ≡ pass) (stock_from f ds)
  begun_writable = subst (λ (l : List Rec). Each (λ r. number12 (written_fields r) ≡ pass) l) k.opens.records (writable_parts k.fits.dataset k.fits.is_writable).2

-- ---- the five records

-- four of them are the carried ones and the general ones; the dataset's records behind its third begin where that ends
pub record Placed (f u : List ℕ) (us : ℕ) (k : Fits f u us) (first old third new : Piece) : Type 0 where
  pub opens : Opens f k.dataset third.end
  pub first_lies : Lies f first
  pub old_lies : Lies f old
  pub third_lies : Lies f third
  pub new_lies : Lies u new
  pub first_is : fields_in f first ≡ k.dataset.descriptive
  pub old_is : fields_in f old ≡ k.dataset.general
  pub third_is : fields_in f third ≡ k.dataset.systems
  pub new_is : fields_in u new ≡ sent_general u

module _ (f u : List ℕ) (us : ℕ) (k : Fits f u us) where
  abbrev start : ℕ
  start = (dataset_opens f k.dataset k.is_read).0

  opening : Opens f k.dataset start
  opening = (dataset_opens f k.dataset k.is_read).1

  pub there_first : (0 ≤ length f) × There f 0
  there_first = (omega arith, run_there f 0 _ _ opening.one)

  pub there_sent : (0 ≤ length u) × There u 0
  there_sent = (omega arith, run_there u 0 _ _ (update_first u us k.fitting))

  module _ (sent : Piece) (c : Cut u 0 sent) where
    sent_end : sent.end ≡ k.fitting.second
    sent_end = cut_end u 0 _ _ (update_first u us k.fitting) sent c

    new_run : Run u sent.end us (sent_general u)
    new_run = subst (λ (p : ℕ). Run u p us (sent_general u)) (sym sent_end) (update_second u us k.fitting)

    pub there_new : (sent.end ≤ length u) × There u sent.end
    there_new = (run_in u _ _ _ new_run, run_there u _ _ _ new_run)

  module _ (first : Piece) (c : Cut f 0 first) where
    old_run : Run f first.end opening.third k.dataset.general
    old_run = subst (λ (p : ℕ). Run f p opening.third k.dataset.general) (sym (cut_end f 0 _ _ opening.one first c)) opening.two

    pub there_old : (first.end ≤ length f) × There f first.end
    there_old = (run_in f _ _ _ old_run, run_there f _ _ _ old_run)

    module _ (old : Piece) (d : Cut f first.end old) where
      third_run : Run f old.end start k.dataset.systems
      third_run = subst (λ (p : ℕ). Run f p start k.dataset.systems) (sym (cut_end f _ _ _ old_run old d)) opening.three

      pub there_third : (old.end ≤ length f) × There f old.end
      there_third = (run_in f _ _ _ third_run, run_there f _ _ _ third_run)

      pub placed : (third : Piece) → Cut f old.end third → (sent : Piece) → Cut u 0 sent → (new : Piece) → Cut u sent.end new → Placed f u us k first old third new
      placed third e sent g new h =
          record {
            opens = subst (λ (p : ℕ). Opens f k.dataset p) (sym (cut_end f _ _ _ third_run third e)) opening;
            first_lies = cut_lies f _ _ _ opening.one first c k.old_short;
            old_lies = cut_lies f _ _ _ old_run old d k.old_short;
            third_lies = cut_lies f _ _ _ third_run third e k.old_short;
            new_lies = cut_lies u _ _ _ (new_run sent g) new h k.new_short;
            first_is = cut_fields f _ _ _ opening.one first c;
            old_is = cut_fields f _ _ _ old_run old d;
            third_is = cut_fields f _ _ _ third_run third e;
            new_is = cut_fields u _ _ _ (new_run sent g) new h;
          }

  module _ (first old third new : Piece) (p : Placed f u us k first old third new) where
    pub old_passed : general_record InDataset (fields_in f old) ≡ pass
    old_passed = ap (general_record InDataset) p.old_is ∙ p.opens.passed

    pub new_passed : general_record InUpdate (fields_in u new) ≡ pass
    new_passed = ap (general_record InUpdate) (p.new_is ∙ k.fitting.general) ∙ k.fitting.passed

    pub first_short : written_length (fields_in f first) ≤ 99999
    first_short = rw p.first_is (writable_parts k.dataset k.is_writable).0

    pub third_short : written_length (fields_in f third) ≤ 99999
    third_short = rw p.third_is (writable_parts k.dataset k.is_writable).1

    module _ (r : Result ℕ Fault) (er : r ≡ general_by (general (fields_in f old) (fields_in u new))) where
      pub told : r ≡ general_by (general k.dataset.general (sent_general u))
      told = er ∙ ap₂ (λ (a b : List Field). general_by (general a b)) p.old_is p.new_is

      module _ (n : ℕ) (x : r ≡ Ok n) where
        pub told_short : n ≤ 99999
        told_short = (general_long k.dataset.general (sent_general u) n (sym x ∙ told)).2

        unfoldable pub begun : (front : ℕ) → front ≡ written_length (fields_in f first) + (n + written_length (fields_in f third)) → Begun f u third.end us front
        unfolding head_length
        begun front e =
            let (a, b, c) = general_long k.dataset.general (sent_general u) n (sym x ∙ told) in
            record {
              fits = k;
              opens = p.opens;
              follows = a;
              long = rw (e, b, p.first_is, p.third_is);
              small = omega (arith, first_short, third_short, e);
            }
