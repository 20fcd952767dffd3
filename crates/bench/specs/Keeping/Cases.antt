-- A function of what a test chooses.
use Rattle.std.specs.Prelude.{◌≡◌, Bool, true, false, cond}

-- it is what the test chooses of its two values
pub cond_along : {A B : Type 0} (f : A → B) (b : Bool) (x y : A) (v w : B) → f x ≡ v → f y ≡ w → f (cond b x y) ≡ cond b v w
cond_along f true x y v w p q = p
cond_along f false x y v w p q = q
