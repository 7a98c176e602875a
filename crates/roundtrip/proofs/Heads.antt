-- A head that is written alone fills its field and is read again. Assumes nothing.
use mathlib.Core.Path.{◌≡◌, refl, ap}
use mathlib.Core.Bool.{true}
use mathlib.Core.List.{List, [], ◌++◌, append-nil}
use Rattle.base.specs.Lists.{gather}
use Rattle.base.proofs.ChoiceLaws.{both_too}
use Rattle.fields.specs.Table.{head_of, tuple_of}
use Rattle.fields.specs.Values.{Val, values, puts, put_all}
use Rattle.fields.specs.Content.{Content, content, encode}
use Rattle.fields.specs.Valid.{pass_all, pass_each, valid, Has}
use Rattle.fields.specs.declared.Format.{Format}
use Rattle.fields.proofs.DecodeLaws.{encode_fill}

-- it fills the field, and is read again
pub head_back : (k : Format) (vs : List Val) → pass_all (head_of k) vs ≡ true → Has k (puts (head_of k) vs) × (values (head_of k) (puts (head_of k) vs) ≡ vs)
unfolding encode content valid pass_each put_all gather
head_back k vs p =
    let c : Content = record { head = vs; tuples = [] } in
    let (a, b) = encode_fill (head_of k) (tuple_of k) c (both_too p refl) in
    let z : puts (head_of k) vs ++ [] ≡ puts (head_of k) vs = append-nil (puts (head_of k) vs) in
    (rw z at a, rw z at (ap (λ (x : Content). x.head) b))
