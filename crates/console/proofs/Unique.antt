-- Two outcomes of one call are equal. Assumes nothing.
use Prim.Native.Nat.{ℕ}
use mathlib.Core.Path.{◌≡◌, sym, ap, ◌∙◌}
use mathlib.Core.List.{List}
use Rattle.base.specs.Choice.{pick}
use Rattle.rules.specs.declared.Answer.{Answer}
use Rattle.promises.proofs.Unique.{reads_once, writes_once, updates_once}
use Rattle.display.specs.declared.Shown.{Shown}
use Rattle.display.proofs.Unique.{begins_once, hands_once}
use Rattle.month.specs.declared.turns.Month.{Month}
use Rattle.month.proofs.HandLaws.{month_once}
use Rattle.cable.proofs.Unique.{tells_once, takes_once}
use Rattle.console.specs.Numbered.{numbered, three_of, Says}
use Rattle.console.specs.Files.{SaysRead, SaysWrite, SaysUpdate}
use Rattle.console.specs.Shown.{chart_at, charted, SaysShown, SaysBegin, SaysHand}
use Rattle.console.specs.Monthly.{SaysMonth}
use Rattle.console.specs.Cabled.{SaysReply, SaysTell, SaysTake}
use Rattle.console.specs.Field.{SaysField}

-- ---- what is said

-- equal answers are said in one way
said_once : (a b : Answer) (old : List ℕ) (n m : ℕ) (new new' : List ℕ) → a ≡ b → Says a old n new → Says b old m new' → (n ≡ m) × (new ≡ new')
said_once a b old n m new new' e x y = (
  x.result ∙ ap (λ (c : Answer). c.number) e ∙ sym y.result,
  x.numbers ∙ ap (λ (c : Answer). numbered c old) e ∙ sym y.numbers,
)

shown_once : (q r : Shown) (old places : List ℕ) (n m : ℕ) (new new' p p' : List ℕ) → q ≡ r → SaysShown q old places n new p → SaysShown r old places m new' p'
    → (n ≡ m) × (new ≡ new') × (p ≡ p')
shown_once q r old places n m new new' p p' e x y =
    let (en, ea) = said_once q.answer r.answer old n m new new' (ap (λ (s : Shown). s.answer) e) x.says y.says in
    (en, ea, x.stands ∙ ap (λ (s : Shown). charted s.chart places) e ∙ sym y.stands)

-- ---- files

pub read_once : (f old : List ℕ) (n m : ℕ) (a a' : List ℕ) → SaysRead f old n a → SaysRead f old m a' → (n ≡ m) × (a ≡ a')
read_once f old n m a a' x y = said_once x.answer y.answer old n m a a' (reads_once f x.answer y.answer x.reads y.reads) x.says y.says

pub write_once : (f : List ℕ) (room : ℕ) (old : List ℕ) (n m : ℕ) (o a o' a' : List ℕ) → SaysWrite f room old n o a → SaysWrite f room old m o' a' → (n ≡ m) × (a ≡ a') × (o ≡ o')
write_once f room old n m o a o' a' x y =
    let (e, eo) = writes_once f room x.answer y.answer o o' x.writes y.writes in
    let (en, ea) = said_once x.answer y.answer old n m a a' e x.says y.says in
    (en, ea, eo)

pub update_once : (f u : List ℕ) (room work : ℕ) (old : List ℕ) (n m : ℕ) (o w a o' w' a' : List ℕ) → SaysUpdate f u room work old n o w a → SaysUpdate f u room work old m o' w' a'
    → (n ≡ m) × (a ≡ a') × (o ≡ o') × (w ≡ w')
update_once f u room work old n m o w a o' w' a' x y =
    let (e, eo, ew) = updates_once f u room work x.answer y.answer o o' w w' x.updates y.updates in
    let (en, ea) = said_once x.answer y.answer old n m a a' e x.says y.says in
    (en, ea, eo, ew)

pub field_once_lem : (f : List ℕ) (i j : ℕ) (old : List ℕ) (n m : ℕ) (a a' : List ℕ) → SaysField f i j old n a → SaysField f i j old m a' → (n ≡ m) × (a ≡ a')
field_once_lem f i j old n m a a' x y = (x.result ∙ sym y.result, x.numbers ∙ sym y.numbers)

-- ---- displays

pub begin_once : (f : List ℕ) (room : ℕ) (old places : List ℕ) (n m : ℕ) (o a p o' a' p' : List ℕ) → SaysBegin f room old places n o a p → SaysBegin f room old places m o' a' p'
    → (n ≡ m) × (a ≡ a') × (p ≡ p') × (o ≡ o')
begin_once f room old places n m o a p o' a' p' x y =
    let (e, eo) = begins_once f room x.shown y.shown o o' x.begun y.begun in
    let (en, ea, ep) = shown_once x.shown y.shown old places n m a a' p p' e x.says y.says in
    (en, ea, ep, eo)

pub hand_once : (place size : ℕ) (first second file : List ℕ) (work : ℕ) (old places : List ℕ) (n m : ℕ) (f s w a p f' s' w' a' p' : List ℕ)
    → SaysHand place size first second file work old places n f s w a p → SaysHand place size first second file work old places m f' s' w' a' p'
    → (n ≡ m) × (a ≡ a') × (p ≡ p') × ((f ≡ f') × (s ≡ s')) × (w ≡ w')
hand_once place size first second file work old places n m f s w a p f' s' w' a' p' x y =
    let (e, ef, ew) = hands_once (chart_at place size) first second file work x.shown y.shown f s w f' s' w' x.followed y.followed in
    let (en, ea, ep) = shown_once x.shown y.shown old places n m a a' p p' e x.says y.says in
    (en, ea, ep, ef, ew)

-- ---- a month

pub monthly_once : (list first : List ℕ) (size : ℕ) (second work old three : List ℕ) (n m : ℕ) (f s w a t f' s' w' a' t' : List ℕ)
    → SaysMonth list first size second work old three n f s w a t → SaysMonth list first size second work old three m f' s' w' a' t'
    → (n ≡ m) × (a ≡ a') × (t ≡ t') × (f ≡ f') × (s ≡ s') × (w ≡ w')
monthly_once list first size second work old three n m f s w a t f' s' w' a' t' x y =
    let (e, ef, es, ew) = month_once list first size second work x.outcome y.outcome f s w f' s' w' x.left y.left in
    let (en, ea) = said_once x.outcome.answer y.outcome.answer old n m a a' (ap (λ (o : Month). o.answer) e) x.says y.says in
    (en, ea, x.others ∙ ap (λ (o : Month). three_of o.applied (pick o.second 2 1) o.length three) e ∙ sym y.others, ef, es, ew)

-- ---- the bridge cable

pub reply_once : (h s old three : List ℕ) (n m : ℕ) (a t a' t' : List ℕ) → SaysReply h s old three n a t → SaysReply h s old three m a' t' → (n ≡ m) × (a ≡ a') × (t ≡ t')
reply_once h s old three n m a t a' t' x y =
    (x.says.result ∙ sym y.says.result, x.says.numbers ∙ sym y.says.numbers, x.others ∙ sym y.others)

pub tell_once : (c : List ℕ) (room : ℕ) (old : List ℕ) (n m : ℕ) (o a o' a' : List ℕ) → SaysTell c room old n o a → SaysTell c room old m o' a' → (n ≡ m) × (a ≡ a') × (o ≡ o')
tell_once c room old n m o a o' a' x y =
    let (e, eo) = tells_once c room x.answer y.answer o o' x.tells y.tells in
    let (en, ea) = said_once x.answer y.answer old n m a a' e x.says y.says in
    (en, ea, eo)

pub take_once : (place size : ℕ) (first second parcel : List ℕ) (work : ℕ) (old places : List ℕ) (n m : ℕ) (f s w a p f' s' w' a' p' : List ℕ)
    → SaysTake place size first second parcel work old places n f s w a p → SaysTake place size first second parcel work old places m f' s' w' a' p'
    → (n ≡ m) × (a ≡ a') × (p ≡ p') × ((f ≡ f') × (s ≡ s')) × (w ≡ w')
take_once place size first second parcel work old places n m f s w a p f' s' w' a' p' x y =
    let (e, ef, ew) = takes_once (chart_at place size) first second parcel work x.shown y.shown f s w f' s' w' x.taken y.taken in
    let (en, ea, ep) = shown_once x.shown y.shown old places n m a a' p p' e x.says y.says in
    (en, ea, ep, ef, ew)
