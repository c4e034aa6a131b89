-- Each return is the case of the definition that its tests decide. Assumes nothing.
use mathlib.Core.Path.{sym, ◌∙◌}
use native.Mathlib.Omega.{arith}
use Rattle.reader.specs.ReadLaws.{no_bytes, unknown_type, wrong-length, right_length}
use Rattle.reader.proofs.read.Goals as goal

pub returns-then-s-eq0 : goal.returns-then-s-eq0
returns-then-s-eq0 c = sym (no_bytes c.args.s.now (omega arith))

pub returns-then-n-eq0 : goal.returns-then-n-eq0
returns-then-n-eq0 c =
    let s = c.args.s.now in
    sym (unknown_type s (omega arith) (omega arith))

pub returns-then-s-n : goal.returns-then-s-n
returns-then-s-n c =
    let s = c.args.s.now in
    sym (wrong-length s (omega arith) (omega arith) (omega arith))

pub returns : goal.returns
returns c =
    let s = c.args.s.now in
    c.judged.ensures ∙ sym (right_length s (omega arith) (omega arith))
