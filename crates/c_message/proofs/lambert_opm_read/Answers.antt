-- `lambert_opm_read` meets its contract: it returns what `read` and `store` give.
use mathlib.Core.Path.{sym, ap, ◌∙◌}
use Rattle.std.specs.Prelude as std
use Rattle.orbit_message.specs.declared.refusals.Refusal.{Refusal}
use Rattle.orbit_message.specs.declared.states.State.{State}
use Rattle.c_message.specs.Numbers.{Result, result_of, read_into}
use Rattle.c_message.proofs.lambert_opm_read.Goals as goal

pub returns-in-Ok : goal.returns-in-Ok
unfolding read_into
returns-in-Ok c =
    let stored = c.store in
    let args = c.args in
    let is = sym c.in-Ok.is ∙ c.read.ensures in
    let same = ap (λ (r : std.Result State Refusal). result_of r args.out.now) is in
    record {
      result = stored.ensures.result ∙ ap (λ (r : Result). r.result) same;
      buffer = stored.ensures.buffer ∙ ap (λ (r : Result). r.buffer) same;
    }

pub returns-in-Err : goal.returns-in-Err
unfolding read_into
returns-in-Err c =
    let args = c.args in
    let is = sym c.in-Err.is ∙ c.read.ensures in
    let same = ap (λ (r : std.Result State Refusal). result_of r args.out.now) is in
    record { result = c.from.ensures ∙ ap (λ (r : Result). r.result) same; buffer = ap (λ (r : Result). r.buffer) same }
