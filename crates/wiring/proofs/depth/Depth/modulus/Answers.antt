use Rattle.std.proofs.Common.{◌^◌, ◌≤◌, arith, pow_mono, mod-eq_of_lt}
use Rattle.wiring.proofs.depth.Depth.modulus.Goals as goal

pub returns-clause-least : goal.returns-clause-least
returns-clause-least c =
    let deep : 4 ≤ 2 ^ c.self.inside.bits = pow_mono {i = 2} {j = c.self.inside.bits} c.self.invariant.0 in
    let shallow : 2 ^ c.self.inside.bits ≤ 65536 = pow_mono {i = c.self.inside.bits} {j = 16} c.self.invariant.1 in
    omega (arith, mod-eq_of_lt)
