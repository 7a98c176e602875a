-- Laws of what C sees of the calls of the bridge cable. Assumes nothing.
use Prim.Native.Nat.{ℕ}
use mathlib.Core.Path.{◌≡◌, ap, subst, ◌∙◌}
use mathlib.Core.Bool.{not}
use mathlib.Core.List.{List}
use lib.Dec.{eqb}
use Rattle.rules.specs.declared.Answer.{Answer}
use Rattle.display.specs.declared.Shown.{Shown}
use Rattle.parcels.specs.Shelf.{reply, reply_answer}
use Rattle.parcels.specs.declared.Reply.{Reply}
use Rattle.parcels.specs.declared.Reply.TheVariants.{Refused, Silence, Parcel}
use Rattle.cable.specs.Taken.{Taken}
use Rattle.console.specs.Numbered.{three_of, Says}
use Rattle.console.specs.Shown.{chart_at, SaysShown}
use Rattle.console.specs.Cabled.{reply_numbers, SaysReply, SaysTake}

-- ---- `put_reply`

module _ (r : Reply) (old new : List ℕ) where
  pub put_refused : r ≡ Refused → new ≡ three_of 0 0 0 old → new ≡ reply_numbers r old
  unfolding reply_numbers
  put_refused x e = rw x e

  pub put_silence : r ≡ Silence → new ≡ three_of 0 0 0 old → new ≡ reply_numbers r old
  unfolding reply_numbers
  put_silence x e = rw x e

  pub put_parcel : (p n : ℕ) → r ≡ Parcel p n → new ≡ three_of 1 p n old → new ≡ reply_numbers r old
  unfolding reply_numbers
  put_parcel p n x e = rw x e

pub ruleset put_ways = (put_refused, put_silence, put_parcel)

-- ---- the calls

pub says_reply : (holding shelf : List ℕ) (r : Reply) (a : Answer) (old three : List ℕ) (n : ℕ) (new three' : List ℕ) → r ≡ reply holding shelf → a ≡ reply_answer r
    → three' ≡ reply_numbers r three → Says a old n new → SaysReply holding shelf old three n new three'
says_reply holding shelf r a old three n new three' e x t s =
    record {
      says = subst (λ (b : Answer). Says b old n new) (x ∙ ap reply_answer e) s;
      others = t ∙ ap (λ (q : Reply). reply_numbers q three) e;
    }

pub says_take : (place size : ℕ) (first second parcel : List ℕ) (work : ℕ) (r : Shown) (old places : List ℕ) (n : ℕ) (first' second' w' new places' : List ℕ)
    → Taken (record { second = not (eqb place 0); length = size }) first second parcel work r first' second' w' → SaysShown r old places n new places'
    → SaysTake place size first second parcel work old places n first' second' w' new places'
unfolding chart_at
says_take place size first second parcel work r old places n first' second' w' new places' t s = record { shown = r; taken = t; says = s }
