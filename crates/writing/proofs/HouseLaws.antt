-- Laws of the house form: a list with all over which it goes on, and then the rest. Assumes nothing.
use Prim.Native.Nat.{ℕ}
use mathlib.Core.Path.{◌≡◌, refl, sym, ap, ◌∙◌}
use mathlib.Core.Bool.{Bool, true, false}
use mathlib.Core.List.{List, [], ◌∷◌, ◌++◌, append_assoc, append-nil}
use native.Mathlib.Omega.{arith}
use borrow.Author.Tests.{eq-eqb, ne_eqb, eqb-true, eqb-false}
use lib.Dec.{eqb}
use lib.ListN.{length}
use Rattle.base.specs.Choice.{pick, both}
use Rattle.skeleton.specs.File.{Field}
use Rattle.rules.specs.Written.{field_as}
use Rattle.writing.specs.House.{is_list, list_before, in_house_form}
use Rattle.writing.specs.Runs.{empty_list, goes_on, run_body, run_rest, more_body, more_rest}

-- ---- one field

-- a field that is no list
pub house_plain : (joins : Bool) (f : Field) (fs : List Field) → is_list joins f.tag ≡ false → in_house_form joins (f ∷ fs) ≡ f ∷ in_house_form joins fs
unfolding in_house_form
house_plain joins f fs e = rw e

-- a field that is a list
pub house_list : (joins : Bool) (f : Field) (fs : List Field) → is_list joins f.tag ≡ true
    → in_house_form joins (f ∷ fs) ≡ list_before f.tag f.body (in_house_form joins fs)
unfolding in_house_form
house_list joins f fs e = rw e

-- an empty list has no field
pub house_empty : (joins : Bool) (f : Field) (fs : List Field) → empty_list joins f.tag (length f.body) ≡ true → in_house_form joins (f ∷ fs) ≡ in_house_form joins fs
unfolding in_house_form empty_list
house_empty joins f fs e = go (is_list joins f.tag) f.body e
  where
    go : (l : Bool) (b : List ℕ) → both l (eqb (length b) 0) ≡ true
        → pick l (list_before f.tag b (in_house_form joins fs)) (f ∷ in_house_form joins fs) ≡ in_house_form joins fs
    go true [] x = unfold list_before in refl
    go true (y ∷ b) x = absurd (let z = eqb-true (length (y ∷ b)) 0 x in omega arith)
    go false b x = absurd (let z : ◌≡◌ {A = ℕ} 0 1 = cc in omega arith)

-- ---- a list

-- two lists of one tag before others are one
list_twice : (t x : ℕ) (b c : List ℕ) (gs : List Field) → list_before t (x ∷ b) (list_before t c gs) ≡ list_before t ((x ∷ b) ++ c) gs
unfolding list_before
list_twice t x b [] gs = ap (λ (w : List ℕ). list_before t w gs) (sym (append-nil (x ∷ b)))
list_twice t x b (y ∷ c) [] = rw (eq-eqb t t refl)
list_twice t x b (y ∷ c) (g ∷ gs) = go (eqb t g.tag)
  where
    go : (u : Bool) → list_before t (x ∷ b) (pick u (field_as t ((y ∷ c) ++ g.body) ∷ gs) (field_as t (y ∷ c) ∷ g ∷ gs))
        ≡ pick u (field_as t (((x ∷ b) ++ (y ∷ c)) ++ g.body) ∷ gs) (field_as t ((x ∷ b) ++ (y ∷ c)) ∷ g ∷ gs)
    go true = unfold list_before in rw (eq-eqb t t refl, append_assoc)
    go false = unfold list_before in rw (eq-eqb t t refl)

-- the first of them has tag t
First : ℕ → List Field → Type 0
First t [] = ⊥
First t (g ∷ gs) = g.tag ≡ t

first_list : (t x : ℕ) (b : List ℕ) (gs : List Field) → First t (list_before t (x ∷ b) gs)
unfolding list_before First
first_list t x b [] = refl
first_list t x b (g ∷ gs) = go (eqb t g.tag)
  where
    go : (u : Bool) → First t (pick u (field_as t ((x ∷ b) ++ g.body) ∷ gs) (field_as t (x ∷ b) ∷ g ∷ gs))
    go true = unfold First in refl
    go false = unfold First in refl

-- a field that is no empty list is the first that is written, alone or joined
first_house : (joins : Bool) (g : Field) (gs : List Field) → empty_list joins g.tag (length g.body) ≡ false → First g.tag (in_house_form joins (g ∷ gs))
unfolding in_house_form empty_list
first_house joins g gs e = go (is_list joins g.tag) g.body e
  where
    go : (l : Bool) (b : List ℕ) → both l (eqb (length b) 0) ≡ false
        → First g.tag (pick l (list_before g.tag b (in_house_form joins gs)) (g ∷ in_house_form joins gs))
    go true [] x = absurd (let z : ◌≡◌ {A = ℕ} 0 1 = cc in omega arith)
    go true (y ∷ b) x = first_list g.tag y b (in_house_form joins gs)
    go false b x = unfold First in refl

-- a list before fields of another tag
list_apart : (t u x : ℕ) (b : List ℕ) (gs : List Field) → (t ≡ u → ⊥) → First u gs → list_before t (x ∷ b) gs ≡ field_as t (x ∷ b) ∷ gs
unfolding list_before First
list_apart t u x b [] n f = absurd f
list_apart t u x b (g ∷ gs) n f = rw (ne_eqb t g.tag (λ e. n (e ∙ f)))

-- an empty list has no bytes
pub empty_body : (joins : Bool) (t : ℕ) (b : List ℕ) → empty_list joins t (length b) ≡ true → b ≡ []
unfolding empty_list
empty_body joins t b e = go (is_list joins t) b e
  where
    go : (l : Bool) (b : List ℕ) → both l (eqb (length b) 0) ≡ true → b ≡ []
    go true [] x = refl
    go true (y ∷ b) x = absurd (let z = eqb-true (length (y ∷ b)) 0 x in omega arith)
    go false b x = absurd (let z : ◌≡◌ {A = ℕ} 0 1 = cc in omega arith)

-- a list with all over which it goes on in fs, and then the rest
abbrev Runs : Bool → ℕ → ℕ → List ℕ → List Field → Type 0
Runs joins t x b fs =
    list_before t (x ∷ b) (in_house_form joins fs) ≡ field_as t ((x ∷ b) ++ run_body joins t fs) ∷ in_house_form joins (run_rest joins t fs)

-- one field more, by whether the list goes on over it
run_by : (joins : Bool) (t x : ℕ) (b : List ℕ) (g : Field) (gs : List Field) → is_list joins t ≡ true → ((c : List ℕ) → Runs joins t x c gs)
    → (u : Bool) → eqb t g.tag ≡ u → (v : Bool) → empty_list joins g.tag (length g.body) ≡ v → Runs joins t x b (g ∷ gs)
unfolding run_body run_rest goes_on
run_by joins t x b g gs l ih true p v q =
    let same : g.tag ≡ t = sym (eqb-true t g.tag p) in
    rw p
    (ap (list_before t (x ∷ b)) (house_list joins g gs (ap (is_list joins) same ∙ l) ∙ ap (λ (w : ℕ). list_before w g.body (in_house_form joins gs)) same)
    ∙ list_twice t x b g.body (in_house_form joins gs)
    ∙ ih (b ++ g.body)
    ∙ ap (λ (w : List ℕ). field_as t w ∷ in_house_form joins (run_rest joins t gs)) (append_assoc (x ∷ b) g.body (run_body joins t gs)))
run_by joins t x b g gs l ih false p true q =
    rw (p, q)
    (ap (list_before t (x ∷ b)) (house_empty joins g gs q)
    ∙ ih b
    ∙ ap (λ (w : List ℕ). field_as t ((x ∷ b) ++ (w ++ run_body joins t gs)) ∷ in_house_form joins (run_rest joins t gs)) (sym (empty_body joins g.tag g.body q)))
run_by joins t x b g gs l ih false p false q =
    rw (p, q)
    (list_apart t g.tag x b (in_house_form joins (g ∷ gs)) (eqb-false t g.tag p) (first_house joins g gs q)
    ∙ ap (λ (w : List ℕ). field_as t w ∷ in_house_form joins (g ∷ gs)) (sym (append-nil (x ∷ b))))

-- a list that has bytes
house_run : (joins : Bool) (t x : ℕ) (b : List ℕ) (fs : List Field) → is_list joins t ≡ true → Runs joins t x b fs
unfolding run_body run_rest list_before in_house_form
house_run joins t x b [] l = ap (λ (w : List ℕ). field_as t w ∷ []) (sym (append-nil (x ∷ b)))
house_run joins t x b (g ∷ gs) l =
    run_by joins t x b g gs l (λ c. house_run joins t x c gs l) (eqb t g.tag) refl (empty_list joins g.tag (length g.body)) refl

-- any field that is written, with all that joins it, and then the rest
pub house_first : (joins : Bool) (f : Field) (fs : List Field) → empty_list joins f.tag (length f.body) ≡ false
    → in_house_form joins (f ∷ fs) ≡ field_as f.tag (f.body ++ more_body joins f.tag fs) ∷ in_house_form joins (more_rest joins f.tag fs)
unfolding empty_list more_body more_rest
house_first joins f fs e = go (is_list joins f.tag) refl f.body e
  where
    go : (l : Bool) → is_list joins f.tag ≡ l → (b : List ℕ) → both l (eqb (length b) 0) ≡ false
        → in_house_form joins (field_as f.tag b ∷ fs)
        ≡ field_as f.tag (b ++ pick l (run_body joins f.tag fs) []) ∷ in_house_form joins (pick l (run_rest joins f.tag fs) fs)
    go true k [] x = absurd (let z : ◌≡◌ {A = ℕ} 0 1 = cc in omega arith)
    go true k (y ∷ b) x = house_list joins (field_as f.tag (y ∷ b)) fs k ∙ house_run joins f.tag y b fs k
    go false k b x =
        house_plain joins (field_as f.tag b) fs k ∙ ap (λ (w : List ℕ). field_as f.tag w ∷ in_house_form joins fs) (sym (append-nil b))

-- ---- carried records

-- without joining, the fields are as they are
pub house_carried : (fs : List Field) → in_house_form false fs ≡ fs
unfolding in_house_form is_list
house_carried [] = refl
house_carried (f ∷ fs) = ap (λ (gs : List Field). f ∷ gs) (house_carried fs)
