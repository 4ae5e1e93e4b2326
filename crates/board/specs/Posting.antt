-- Posting several records. Definitions only.
use Rattle.std.specs.Prelude.{ℕ, List, [], ◌∷◌}
use Rattle.board.specs.Board.{post_of}

-- The board after the messages are posted on it one after another.
unfoldable pub post_all : List ℕ → List (List ℕ) → List ℕ
post_all b [] = b
post_all b (m ∷ ms) = post_all (post_of b m).board ms
