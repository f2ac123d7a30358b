use Rattle.std.proofs.Common.{◌<◌, refl, arith}
use Rattle.reading.proofs.Numbers.{leading_zero, past_limit, step}
use Rattle.reading.proofs.reader.number.value_of.Goals as goal
use Rattle.reading.proofs.reader.number.value_of.Goals.{else-i-gt0-via-then-i-gt0+else-value-eq0, else-i-gt0-via-else-i-gt0}

pub returns-then-value-eq0 : goal.returns-then-value-eq0
returns-then-value-eq0 c = record {
  index = c.loop-i.i;
  is = refl;
  inside = c.loop-i-test.true;
  stopped = leading_zero c.args.limit (omega arith) _ c.requires.digits c.loop-i.i c.loop-i.value c.loop-i-test.true c.loop-i.invariant c.if-i-gt0.true c.if-value-eq0.true;
}

pub returns-then-longer-from : goal.returns-then-longer-from
returns-then-longer-from c =
    let nonzero : 0 < c.loop-i.i → 0 < c.loop-i.value = λ pos. elim c.else-i-gt0.branch [ else-i-gt0-via-then-i-gt0+else-value-eq0 w ↦ omega arith | else-i-gt0-via-else-i-gt0 w ↦ omega arith ] in
    record {
      index = c.loop-i.i;
      is = refl;
      inside = c.loop-i-test.true;
      stopped = past_limit c.args.limit (omega arith) _ c.requires.digits c.loop-i.i c.loop-i.value c.loop-i-test.true c.loop-i.invariant nonzero (omega arith);
    }

pub loop-i-preserved : goal.loop-i-preserved
loop-i-preserved c =
    let nonzero : 0 < c.loop-i.i → 0 < c.loop-i.value = λ pos. elim c.else-i-gt0.branch [ else-i-gt0-via-then-i-gt0+else-value-eq0 w ↦ omega arith | else-i-gt0-via-else-i-gt0 w ↦ omega arith ] in
    step c.args.limit (omega arith) _ c.requires.digits c.loop-i.i c.loop-i.value c.loop-i-test.true c.loop-i.invariant nonzero _ (omega arith) (omega arith)
