-- Texts as bytes.
use Rattle.std.specs.Prelude.{ℕ, List, [], ◌∷◌}
use Prim.Native.Char.{code}
use Prim.Native.String.{String, [] as ends, ◌∷◌ as starts}

-- the bytes of a text in ASCII
abbrev pub ascii : String → List ℕ
ascii ends = []
ascii (starts c s) = code c ∷ ascii s
