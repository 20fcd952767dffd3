use Rattle.std.proofs.Common.{◌*◌, ◌≤◌, mul-le-mul_right, arith}
use Rattle.backends.proofs.adapter.Adapter.register.Goals as goal

pub overflow_add-result : goal.overflow_add-result
overflow_add-result g c =
    let stride = g.P.Place.stride c.args.self.now.place in
    let below : c.args.offset * stride ≤ 7 * stride = mul-le-mul_right stride (omega arith) in
    simp (c.from.ensures, c.from-2.ensures, c.distance.ensures) (omega (arith, c.address.ensures))
