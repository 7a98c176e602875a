-- Laws of a holding that is told. Assumes nothing.
use mathlib.Core.Path.{◌≡◌, refl, sym, ap, subst, ◌∙◌}
use mathlib.Core.List.{List, ◌∷◌, ◌++◌, append_assoc}
use Prim.Native.Nat.{ℕ, zero, suc, ◌+◌, ◌-◌, ◌/◌, ◌%◌, ◌^◌, ◌≤◌, ◌<◌}
use native.Mathlib.Omega.{arith}
use borrow.Author.Tests.{lt-ltb, le-ltb}
use lib.ListN.{length, drop, length-take, length-drop}
use Rattle.std.specs.Prelude.{Some, Result, Ok, Err}
use Rattle.base.specs.declared.Fault.{Fault}
use Rattle.base.specs.declared.Refusal.{Refusal}
use Rattle.fields.specs.Bytes.{bytes, run}
use Rattle.fields.specs.Table.{head_of}
use Rattle.fields.specs.Values.{values, num_at, text_at}
use Rattle.fields.specs.Places.{head_place}
use Rattle.fields.specs.declared.Format.TheVariants.{Dsid}
use Rattle.memory.specs.Put.{part}
use Rattle.memory.specs.Hold.{zeros, hold}
use Rattle.memory.specs.Digits.{digits, little_endian}
use Rattle.memory.specs.Wrote.{Wrote}
use Rattle.memory.proofs.WroteLaws.{then, wrote_hold}
use Rattle.memory.proofs.HoldLaws.{length_zeros}
use Rattle.skeleton.specs.Place.{between}
use Rattle.rules.specs.General.{dsid_of, name_of, edition_of, number_of}
use Rattle.rules.specs.Outcome.{done, refused, and_then}
use Rattle.rules.specs.Answers.{Output, refusal, success, output_of}
use Rattle.rules.specs.declared.Answer.{Answer}
use Rattle.rules.specs.declared.Mode.TheVariants.{InDataset}
use Rattle.following.specs.Naming.{Identified}
use Rattle.following.proofs.NamingLaws.{name_in, name_runs, name_ends, name_is}
use Rattle.parcels.specs.Holding.{holding, told, told_in, tell}
use Rattle.parcels.specs.Front.{general_in}
use Rattle.parcels.proofs.GeneralLaws.{named}
use Rattle.cable.specs.Front.{DsidAt, FrontIn}
use Rattle.cable.specs.Naming.{holding_of, TellsAs}
use Rattle.cable.specs.Promise.{Tells}

-- numbers written are the fields' bytes
digits_bytes : (w n : ℕ) → digits 256 w n ≡ bytes w n
unfolding digits bytes
digits_bytes zero n = refl
digits_bytes (suc w) n = ap (λ (l : List ℕ). n % 256 ∷ l) (digits_bytes w (n / 256))

written_bytes_lem : (w n : ℕ) → little_endian w n ≡ bytes w n
unfolding little_endian
written_bytes_lem w n = digits_bytes w n

-- ---- `put_holding`

module _ (b : List ℕ) (g : Identified b) (p : ℕ) (ep : Some p ≡ head_place (head_of Dsid) 7 b) (e : ℕ) (ee : e ≡ p + run (drop p b)) where
  name_part : part p (e - p) b ≡ text_at (values (head_of Dsid) b) 7
  unfolding part
  name_part = name_is b g p ep e ee

  pub name_room : p + (e - p) ≤ length b
  name_room = omega (arith, name_ends b g p ep e ee, name_runs b g p ep e ee)

  name_length : length (text_at (values (head_of Dsid) b) 7) ≡ e - p
  unfolding part
  name_length = ap length (sym name_part) ∙ omega (arith, length-take (e - p) (drop p b), length-drop p b, name_room, name_runs b g p ep e ee)

  pub holding_long : length (holding_of b) ≡ 10 + (e - p)
  unfolding holding_of bytes
  holding_long = omega (arith, name_length)

  pub put_all : (d₀ d₁ d₂ d₃ d₄ d₅ : List ℕ) (i j k l r edition number : ℕ) → Wrote l (part p (e - p) b) d₄ r d₅ → Wrote k (little_endian 2 number) d₃ l d₄
      → Wrote j (little_endian 2 edition) d₂ k d₃ → Wrote i (little_endian 2 1) d₁ j d₂ → Wrote 0 (little_endian 4 (10 + (e - p))) d₀ i d₁
      → edition ≡ num_at (values (head_of Dsid) b) 8 → number ≡ num_at (values (head_of Dsid) b) 9 → Wrote 0 (holding_of b) d₀ r d₅
  unfolding holding_of
  put_all d₀ d₁ d₂ d₃ d₄ d₅ i j k l r edition number v w x y z ey en =
      let whole : Wrote 0 ((((little_endian 4 (10 + (e - p)) ++ little_endian 2 1) ++ little_endian 2 edition) ++ little_endian 2 number) ++ part p (e - p) b) d₀ r d₅
      = then v (then w (then x (then y z))) in
      let same : (((little_endian 4 (10 + (e - p)) ++ little_endian 2 1) ++ little_endian 2 edition) ++ little_endian 2 number) ++ part p (e - p) b ≡ holding_of b
      = simp append_assoc (rw (name_part, ← name_length, ← ey, ← en) (simp written_bytes_lem)) in
      subst (λ (ys : List ℕ). Wrote 0 ys d₀ r d₅) same whole

  -- ---- `tell_dsid`

  pub name_fits : length b < 10 ^ 9 → 10 + (e - p) < 2 ^ 64
  name_fits l = omega (arith, name_room)

  module _ (room : ℕ) (o : List ℕ) (eo : o ≡ zeros room) where
    cleared : length o ≡ room
    cleared = ap length eo ∙ length_zeros room

    pub tell_short : length o < 10 + (e - p) → (a : Answer) → a ≡ record { number = 13; file = 3; rec = 0; length = 0; count = 0 } → TellsAs (holding_of b) room a o
    unfolding told_in output_of refusal zeros
    tell_short l a ea =
        let h : room < length (holding_of b) = omega (arith, holding_long, cleared) in
        rw (ea, eo) (record { said = rw (lt-ltb room (length (holding_of b)) h) refl; left = rw (lt-ltb room (length (holding_of b)) h) refl })

    pub tell_long : 10 + (e - p) ≤ length o → (n : ℕ) (o' : List ℕ) → Wrote 0 (holding_of b) o n o'
        → TellsAs (holding_of b) room (record { number = 0; file = 0; rec = 0; length = n; count = 0 }) o'
    unfolding told_in output_of success zeros hold
    tell_long l n o' w =
        let h : length (holding_of b) ≤ room = omega (arith, holding_long, cleared) in
        let m : n ≡ length (holding_of b) = omega (arith, w.next) in
        let x : o' ≡ hold room (holding_of b) = wrote_hold w eo h in
        rw (m, x) (record { said = rw (le-ltb room (length (holding_of b)) h) refl; left = rw (le-ltb room (length (holding_of b)) h) refl })

pub ruleset put_ways = (name_room, put_all, arith)

pub ruleset dsid_ways = (name_in, name_runs, name_ends, name_fits, tell_short, tell_long, arith)

-- ---- `tell`

module _ (f : List ℕ) (q : Result (ℕ × ℕ) Refusal) (eq : FrontIn InDataset f q) where
  module _ (i j : ℕ) (x : q ≡ Ok (i, j)) where
    dsid : DsidAt InDataset f i j
    dsid = subst (FrontIn InDataset f) x eq

    pub tell_runs : i ≤ j
    tell_runs = dsid.runs

    pub tell_in : j ≤ length f
    tell_in = dsid.inside

    pub tell_filled : Identified (between f i j)
    tell_filled = dsid.filled

    pub tell_small : length (between f i j) < 10 ^ 9
    tell_small = let s = (named InDataset f dsid.general dsid.read).short in omega (arith, ap length dsid.body)

    told_is : told f ≡ done (holding_of (between f i j))
    unfolding told and_then holding holding_of name_of edition_of number_of dsid_of
    told_is = rw (dsid.read, ← dsid.body)

    module _ (room : ℕ) (a : Answer) (o : List ℕ) (t : TellsAs (holding_of (between f i j)) room a o) where
      pub tells_holding_lem : Tells f room a o
      unfolding tell and_then
      tells_holding_lem = record { answers = rw told_is t.said; fills = rw told_is t.left }

  refused_as : (n : ℕ) (x : Fault) → general_in InDataset f ≡ refused 1 n x → (room : ℕ) → tell f room ≡ record { answer = refusal 1 n x; out = zeros room }
  unfolding tell told and_then output_of zeros
  refused_as n x e room = rw e refl

  module _ (y : Refusal) (x : q ≡ Err y) (room : ℕ) where
    stopped : general_in InDataset f ≡ refused 1 y.rec y.fault
    stopped = subst (FrontIn InDataset f) x eq

    pub tells_refusal : (a : Answer) (o : List ℕ) → a ≡ record { number = y.fault.number; file = 1; rec = y.rec; length = 0; count = 0 } → o ≡ zeros room → Tells f room a o
    unfolding refusal
    tells_refusal a o ea eo =
        let s = refused_as y.rec y.fault stopped room in
        record { answers = ea ∙ sym (ap (λ (w : Output). w.answer) s); fills = eo ∙ sym (ap (λ (w : Output). w.out) s) }

pub ruleset tell_ways = (tell_runs, tell_in, tell_filled, tell_small, tells_holding_lem, tells_refusal, arith)
