use Rattle.std.proofs.Common.{◌-◌, arith}
use Rattle.long_capture.proofs.Steps.{reads_on, quiet_on, late_enough, window_at, reads_looked, tells_looked}
use Rattle.long_capture.proofs.scans.Scan.step.Goals as goal

pub returns-then-self-gt0-clause-reads : goal.returns-then-self-gt0-clause-reads
returns-then-self-gt0-clause-reads c = reads_on c.args.self.now c.push.new.self c.args.x c.push.ensures c.if-self-gt0.true

pub returns-then-self-gt0-clause-tells : goal.returns-then-self-gt0-clause-tells
returns-then-self-gt0-clause-tells c = λ e n reads here. quiet_on c.args.self.now e n c.if-self-gt0.true reads

pub returns-clause-reads : goal.returns-clause-reads
returns-clause-reads c = λ e n reads here.
    let was = c.args.self.now in
    let late = late_enough was e n c.if-self-gt0.false reads in
    let looks = c.look.ensures.looks e (n - 1449) (window_at was c.push.new.self c.args.x e n c.push.ensures reads here late) (omega (arith, reads.seen)) in
    reads_looked was c.look.new.self c.push.new.self c.args.x c.look.result c.push.ensures c.if-self-gt0.false c.look.ensures.window c.look.ensures.seen e n reads here looks

pub returns-clause-tells : goal.returns-clause-tells
returns-clause-tells c = λ e n reads here.
    let was = c.args.self.now in
    let late = late_enough was e n c.if-self-gt0.false reads in
    let looks = c.look.ensures.looks e (n - 1449) (window_at was c.push.new.self c.args.x e n c.push.ensures reads here late) (omega (arith, reads.seen)) in
    tells_looked e n c.look.new.self.quiet c.look.result late looks
