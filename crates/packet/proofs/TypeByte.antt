-- The kind that a type byte says. Assumes nothing.
use Rattle.std.proofs.Common.{◌≡◌, ℕ, List, true, Ok, Err, Result, arith}
use Rattle.std.specs.List.{slice_index}
use Rattle.std.proofs.lemmas.Grind.{common_steps}
use Rattle.std.specs.Result.{result_or}
use Rattle.std.proofs.lemmas.Bool.Decides.{nat_tests}
use Rattle.wire.specs.declared.fault.Fault.{Fault}
use Rattle.wire.specs.declared.fault.Layer.TheVariants.{Wrapper}
use Rattle.wire.specs.declared.fault.Cause.TheVariants.{WrongType}
use Rattle.wire.specs.Reading.{At, Reads, forward, fault_at, has, byte, fixed}
use Rattle.packet.specs.declared.kind.Kind.{Kind}
use Rattle.packet.specs.declared.kind.Kind.TheVariants as kind
use Rattle.packet.specs.Encoding.{SaysKind}
use Rattle.packet.specs.Readers.{read_kind}

pub kind_read : {E : Type 0} (a b : At) (x : ℕ) (wrong : Fault) (r : Result Kind E) → has 1 a ≡ true → x ≡ byte 0 a → b ≡ forward 1 a → wrong ≡ fault_at Wrapper WrongType a → SaysKind x r → Reads (λ k. k) (result_or r (Err wrong)) (read_kind a) b
kind_read a b x wrong (Ok kind.Prepare) there at on w says = grind (arith, nat_tests)
kind_read a b x wrong (Ok kind.Fulfill) there at on w says = grind (arith, nat_tests)
kind_read a b x wrong (Ok kind.Reject) there at on w says = grind (arith, nat_tests)
kind_read a b x wrong (Err e) there at on w says =
    let p = says kind.Prepare in
    let f = says kind.Fulfill in
    let r = says kind.Reject in
    grind (arith, nat_tests)

-- a byte is there, and the reading stands behind it
pub byte_read : {X : Type 0} (mean : X → List ℕ) (r : Result X Fault) (none : Fault) (a b : At) (x : X) → Reads mean r (fixed 1 a) b → result_or r (Err none) ≡ Ok x → (has 1 a ≡ true) × (b ≡ forward 1 a) × (slice_index (mean x) 0 ≡ byte 0 a)
byte_read mean (Ok y) none a b x h e = grind (arith, common_steps, nat_tests)
byte_read mean (Err f) none a b x h e = grind (arith, common_steps, nat_tests)
