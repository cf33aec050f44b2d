-- However an input is cut into blocks, the program puts out the output of the whole input.
use Rattle.std.specs.Prelude.{◌≡◌, List, [], ◌∷◌, ◌++◌, ℕ}
use Rattle.sheetlog.specs.Output.{zeros, end_text, output}
use Rattle.sheetlog.specs.Blocks.{block}

unfoldable pub joined : List (List ℕ) → List ℕ
joined [] = []
joined (bytes ∷ rest) = bytes ++ joined rest

-- what `answer_block` puts out for each block, after the line and the state that the one before left, and then what `answer_end` does
unfoldable pub put_out : List ℕ → List ℕ → List (List ℕ) → List ℕ
put_out line state [] = end_text line state
put_out line state (bytes ∷ rest) =
    (block line state bytes).printed ++ put_out (block line state bytes).line (block line state bytes).state rest

abbrev pub BlockByBlock : Type 0
BlockByBlock = (blocks : List (List ℕ)) → put_out [] zeros blocks ≡ output (joined blocks)
