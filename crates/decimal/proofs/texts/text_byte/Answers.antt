-- `texts::text_byte` meets its contract: each result is a case of `proofs/TextBytes.antt`.
use native.Mathlib.Omega.{arith}
use Rattle.decimal.proofs.TextBytes.{byte_sign, byte_whole, byte_point, byte_billionths, byte_past}
use Rattle.decimal.proofs.texts.text_byte.Goals as goal

pub returns-then-i-start : goal.returns-then-i-start
returns-then-i-start c =
    let args = c.args in
    let sign = c.from-start.ensures in
    let digits = c.digit_count.ensures.0 in
    byte_sign args.d args.i _ _ sign digits c.if-i-start.true

pub returns-then-i-point : goal.returns-then-i-point
returns-then-i-point c =
    let args = c.args in
    let sign = c.from-start.ensures in
    let digits = c.digit_count.ensures.0 in
    let byte = c.digit in
    byte_whole args.d args.i _ _ sign digits byte.result c.if-i-start.false c.if-i-point.true byte.ensures

pub returns-then-i-point-2 : goal.returns-then-i-point-2
returns-then-i-point-2 c =
    let args = c.args in
    let sign = c.from-start.ensures in
    let digits = c.digit_count.ensures.0 in
    byte_point args.d args.i _ _ sign digits c.if-i-point-2.true

pub returns-then-i-point-3 : goal.returns-then-i-point-3
returns-then-i-point-3 c =
    let args = c.args in
    let sign = c.from-start.ensures in
    let digits = c.digit_count.ensures.0 in
    let byte = c.digit-then-i-point-3 in
    byte_billionths args.d args.i _ _ sign digits byte.result (omega arith) c.if-i-point-3.true byte.ensures

pub returns-else-i-point-3 : goal.returns-else-i-point-3
returns-else-i-point-3 c =
    let args = c.args in
    let sign = c.from-start.ensures in
    let digits = c.digit_count.ensures.0 in
    byte_past args.d args.i _ _ sign digits c.if-i-point-3.false
