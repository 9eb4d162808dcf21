-- The help text.
use Rattle.std.specs.Prelude.{ℕ, List, [], ◌∷◌, ◌++◌, codes}

-- each line, with a newline after it
unfoldable pub lines_of : List (List ℕ) → List ℕ
lines_of [] = []
lines_of (line ∷ others) = line ++ 10 ∷ lines_of others

unfoldable pub help_text : List ℕ
help_text = lines_of (
    codes "Usage: rapidhash <version> [opts] [filename]"
    ∷ codes "<version>"
    ∷ codes "  --v1    Use v1 hashing algorithm (no streaming)"
    ∷ codes "  --v2.0  Use v2.0 hashing algorithm (no streaming)"
    ∷ codes "  --v2.1  Use v2.1 hashing algorithm (no streaming)"
    ∷ codes "  --v2.2  Use v2.2 hashing algorithm (no streaming)"
    ∷ codes "  --v3    Use v3 hashing algorithm (default)"
    ∷ codes "  --v3-micro  Use v3 micro hashing algorithm"
    ∷ codes "  --v3-nano   Use v3 nano hashing algorithm"
    ∷ codes "[opts]"
    ∷ codes "  --protected  Use the protected variant (default: false)"
    ∷ codes "[filename]"
    ∷ codes "  Providing a filename is optional and will read a file directly. Otherwise input"
    ∷ codes "  is read from stdin."
    ∷ []
    ∷ codes "Note that only some rapidhash versions support streaming, others require"
    ∷ codes "buffering the entire input in memory."
    ∷ []
    ∷ codes "Docs: https://github.com/hoxxep/rapidhash?tab=readme-ov-file#cli"
    ∷ [])
