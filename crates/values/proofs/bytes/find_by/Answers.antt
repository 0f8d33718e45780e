use Rattle.values.proofs.Scans.{hit, miss, ended}
use Rattle.values.proofs.bytes.find_by.Goals as goal

pub returns-then-passes : goal.returns-then-passes
returns-then-passes g c = λ t h. hit (c.loop-i.invariant t h) c.loop-i-test.true (h _ _ c.passes.ensures) c.if-passes.true

pub returns-then-s-i : goal.returns-then-s-i
returns-then-s-i g c = λ t h. ended (miss (c.loop-i.invariant t h) c.loop-i-test.true (h _ _ c.passes.ensures) c.if-passes.false) c.if-s-i.true

pub returns-then-passes-2 : goal.returns-then-passes-2
returns-then-passes-2 g c = λ t h. hit (miss (c.loop-i.invariant t h) c.loop-i-test.true (h _ _ c.passes.ensures) c.if-passes.false) c.if-s-i.false (h _ _ c.passes-in-loop-i.ensures) c.if-passes-2.true

pub loop-i-preserved : goal.loop-i-preserved
loop-i-preserved g c = λ t h. miss (miss (c.loop-i.invariant t h) c.loop-i-test.true (h _ _ c.passes.ensures) c.if-passes.false) c.if-s-i.false (h _ _ c.passes-in-loop-i.ensures) c.if-passes-2.false

pub returns : goal.returns
returns g c = λ t h. ended (c.loop-i.invariant t h) c.loop-i-test.false
