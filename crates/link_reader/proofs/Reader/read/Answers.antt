-- `Reader::read` meets its contract: the result decides which step it is, and the step has the refusal that the contract promises.
use mathlib.Core.Path.{◌≡◌, ap, ◌∙◌}
use native.Mathlib.Omega.{arith}
use lib.ListN.{length-append}
use Rattle.std.specs.Prelude.{Some, None, Ok, Err}
use Rattle.link_reader.specs.declared.Refusal.TheVariants.{BadLength, NeedsReset}
use Rattle.link_reader.specs.Reading.{kept_of, refusal_of, came_of}
use Rattle.link_reader.proofs.Verdicts.{came_verdict, part_fits, whole_fits}
use Rattle.link_reader.proofs.Refusals.{refusal_came}
use Rattle.link_reader.proofs.Reader.read.Goals as goal

pub finished-requires : goal.finished-requires
finished-requires c =
    let a = c.args in
    let came = c.in-Ok-Some in
    let told : came_of a.self a.piece.now ≡ Ok (Some came.size) = cc (c.came_of.ensures, came.is, came.field-0-is) in
    let fits = whole_fits (came_verdict a.self a.piece.now told) in
    record { fits = fits.1; arrived = omega (arith, fits.0, length-append (kept_of a.self) a.piece.now) }

pub unfinished-requires : goal.unfinished-requires
unfinished-requires c =
    let a = c.args in
    let came = c.in-Ok-None in
    let told : came_of a.self a.piece.now ≡ Ok None = cc (c.came_of.ensures, came.is, came.field-0-is) in
    omega (arith, part_fits (came_verdict a.self a.piece.now told), length-append (kept_of a.self) a.piece.now)

pub returns-in-Err-BadLength-clause-refusal : goal.returns-in-Err-BadLength-clause-refusal
returns-in-Err-BadLength-clause-refusal c =
    let a = c.args in
    let came = c.in-Err-BadLength in
    let told : Err BadLength ≡ came_of a.self a.piece.now = cc (c.came_of.ensures, came.is, came.field-0-is) in
    ap refusal_of told ∙ refusal_came a.self a.piece.now

pub returns-in-Err-NeedsReset-clause-refusal : goal.returns-in-Err-NeedsReset-clause-refusal
returns-in-Err-NeedsReset-clause-refusal c =
    let a = c.args in
    let came = c.in-Err-NeedsReset in
    let told : Err NeedsReset ≡ came_of a.self a.piece.now = cc (c.came_of.ensures, came.is, came.field-0-is) in
    ap refusal_of told ∙ refusal_came a.self a.piece.now
