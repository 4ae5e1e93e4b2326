-- `state_of` meets its contract: each return is a case of proofs/StateCases.antt.
use mathlib.Core.Path.{◌∙◌}
use Rattle.orbit_message.proofs.StateCases.{no_position, no_velocity, both_vectors}
use Rattle.orbit_message.proofs.states.state_of.Goals as goal

pub returns-in_err-vector_of : goal.returns-in_err-vector_of
returns-in_err-vector_of c =
    let args = c.args in
    let position = c.vector_of in
    c.from_residual.ensures ∙ no_position args.r args.v position.result position.ensures c.in_err-vector_of.was

pub returns-in_err-vector_of-2 : goal.returns-in_err-vector_of-2
returns-in_err-vector_of-2 c =
    let args = c.args in
    let velocity = c.vector_of-2 in
    let left = c.from_residual-in_err-vector_of-2.ensures in
    left ∙ no_velocity args.r args.v velocity.result velocity.ensures c.in_err-vector_of-2.was

pub returns : goal.returns
returns c =
    let args = c.args in
    let p = c.vector_of in
    let q = c.vector_of-2 in
    let x = c.in_ok-vector_of in
    let y = c.in_ok-vector_of-2 in
    both_vectors args.r args.v p.result q.result x.field-0 y.field-0 p.ensures x.was q.ensures y.was
