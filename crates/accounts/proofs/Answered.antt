-- What an answer that depends on a test tells of the test. Assumes nothing.
use Rattle.std.proofs.Common.{◌≡◌, Bool, true, false, Some, refl}
use Rattle.std.specs.Bool.{then_some}

pub some-when : {X : Type 0} (b : Bool) (x y : X) → Some x ≡ then_some b y → (b ≡ true) × (x ≡ y)
some-when true x y e = (refl, cc)
some-when false x y e = (cc, cc)
