-- Laws of the loop that puts out a file's written form. Assumes nothing.
use Prim.Native.Nat.{ℕ, ◌+◌, ◌^◌, ◌≤◌, ◌<◌}
use mathlib.Core.Path.{◌≡◌, refl, sym, ap, ◌∙◌}
use mathlib.Core.Bool.{true, false}
use mathlib.Core.List.{List, []}
use native.Mathlib.Omega.{arith}
use borrow.Author.Tests.{ne_eqb}
use lib.ListN.{length}
use lib.Dec.{eqb, ltb}
use Rattle.std.specs.Prelude.{Result, Ok, Err}
use Rattle.memory.specs.Put.{put}
use Rattle.memory.specs.Wrote.{Wrote}
use Rattle.memory.proofs.WroteLaws.{wrote_length}
use Rattle.skeleton.specs.File.{Field}
use Rattle.skeleton.specs.Emit.{emit, emits}
use Rattle.skeleton.specs.Place.{between, fields_at}
use Rattle.skeleton.specs.Record.{record_at}
use Rattle.skeleton.specs.declared.leader.Broken.{Broken}
use Rattle.skeleton.specs.declared.leader.Head.{Head}
use Rattle.skeleton.proofs.RecordLaws.{right, record_in_lem, record_falls, record_word, record_bounded}
use Rattle.rules.specs.Written.{field_width, written_length}
use Rattle.writing.specs.House.{in_house_form}
use Rattle.writing.proofs.WriterLaws.{put_on, put_all}
use Rattle.writer.specs.Forms.{forms_from, lengths}
use Rattle.writer.proofs.FormsLaws.{forms_refused, forms_more}
use Rattle.writer.proofs.MeasureLaws.{part_small, lengths_emits}

-- the loop at byte p, with n the number of the record there, and at q of the output
pub record PutsAt (f out₀ out : List ℕ) (p n q : ℕ) : Type 0 where
  pub count : q + lengths (forms_from f p n) ≡ lengths (forms_from f 0 1)
  pub long : length out ≡ length out₀
  pub left : put q (emits field_width field_width (eqb n 1) (forms_from f p n)) out ≡ put 0 (emits field_width field_width true (forms_from f 0 1)) out₀
  pub inside : p ≤ length f
  pub few : n ≤ p + 1
  pub some : 1 ≤ n

pub put_start : (f out : List ℕ) → PutsAt f out out 0 1 0
put_start f out = record { count = omega arith; long = refl; left = refl; inside = omega arith; few = omega arith; some = omega arith }

module _ (f out₀ out : List ℕ) (p n q : ℕ) (inv : PutsAt f out₀ out p n q) where
  -- no more records
  ended : forms_from f p n ≡ [] → Wrote 0 (emits field_width field_width true (forms_from f 0 1)) out₀ q out
  unfolding lengths emits
  ended z =
      let c : q + lengths (forms_from f p n) ≡ lengths (forms_from f 0 1) = inv.count in
      let k : lengths (forms_from f p n) ≡ 0 = ap lengths z in
      put_all _ inv.left (ap (emits field_width field_width (eqb n 1)) z) (omega (arith, lengths_emits true (forms_from f 0 1)))

  module _ (h : Result Head Broken) (eh : h ≡ record_at f p) where
    pub put_refused : (k : Broken) → h ≡ Err k → Wrote 0 (emits field_width field_width true (forms_from f 0 1)) out₀ q out
    put_refused k x = ended (forms_refused f p n h eh k x)

    module _ (d : Head) (x : h ≡ Ok d) where
      -- the record at hand as it is written
      abbrev form : List Field
      form = in_house_form (ltb 3 n) (fields_at (between f p (p + d.len)) d.shape 24)

      here : lengths (forms_from f p n) ≡ written_length form + lengths (forms_from f (p + d.len) (n + 1))
      unfolding lengths
      here = ap lengths (forms_more f p n h eh d x)

      pub put_room : lengths (forms_from f 0 1) ≤ length out₀ → q + written_length form ≤ length out
      put_room g = omega (arith, inv.count, inv.long, here)

      pub put_number : length f ≤ 16777216 → n + 1 < 2 ^ 64
      put_number w = omega (arith, inv.few)

      pub put_more : (q' : ℕ) (out' : List ℕ) → q' ≡ q + written_length form → Wrote q (emit field_width field_width (eqb n 1) form) out q' out'
          → PutsAt f out₀ out' (p + d.len) (n + 1) q'
      unfolding emits
      put_more q' out' e w =
          let k = right f p h eh d x in
          let later : eqb (n + 1) 1 ≡ false = ne_eqb (n + 1) 1 (λ z. omega (arith, inv.some)) in
          record {
            count = omega (arith, inv.count, here);
            long = wrote_length w ∙ inv.long;
            left = rw later
                (put_on (emits field_width field_width false (forms_from f (p + d.len) (n + 1))) w
                ∙ ap (λ (fss : List (List Field)). put q (emits field_width field_width (eqb n 1) fss) out) (sym (forms_more f p n h eh d x))
                ∙ inv.left);
            inside = k.inside;
            few = omega (arith, inv.few, k.long);
            some = omega arith;
          }

pub ruleset put_turn = (
  part_small,
  put_start,
  put_refused,
  put_room,
  put_number,
  put_more,
  record_in_lem,
  record_falls,
  record_word,
  record_bounded,
  arith,
)
