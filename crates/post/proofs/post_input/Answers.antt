-- `post_input` meets its contract: the board that it writes is the one with every record posted.
use Rattle.std.proofs.Common.{◌≡◌, List, ℕ, Option, Some, None, Result, Ok, IfSome, Bool, true, rules, subst}
use Rattle.std.specs.Io.KnownBytes.{Appends}
use Rattle.board.specs.Board.{empty_board}
use Rattle.record_stream.specs.Streams.{board_from}
use Rattle.post.specs.Posting.{InputRead, BoardWritten}
use Rattle.post.specs.declared.Failure.{Failure}
use Rattle.post.proofs.post_input.Goals as goal

written : (input output after : Option (List ℕ)) (board : List ℕ) (r : Result Bool Failure) → r ≡ Ok true
    → IfSome input (λ xs. InputRead xs empty_board board r) → Appends output after board
    → IfSome input (λ xs. BoardWritten xs output after (Ok true))
unfolding board_from
written None output after board r is read grows = tt
written (Some xs) output after board r is read grows = subst (Appends output after) (subst (InputRead xs empty_board board) is read) grows

pub returns : goal.returns
unfolding empty_board
returns g c =
    written _ (g.W.Write.contents c.args.output.now) (g.W.Write.contents c.write_all.new.self) c.post_all.new.board
    c.post_all.result (search rules) c.post_all.ensures.input (search rules)
