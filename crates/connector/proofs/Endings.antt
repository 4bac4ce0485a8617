-- How an answer ends a row, by the tests that the code makes.
use Rattle.std.proofs.Common.{◌≡◌, ℕ, ◌<◌, ◌≤◌, Bool, true, false, cond, List, length, Ok, Err, Result, sym, refl, ap, ◌∙◌, arith}
use Rattle.std.proofs.lemmas.List.{length-append}
use Rattle.wire.specs.declared.fault.Fault.{Fault}
use Rattle.wire.specs.Writing.{determinant_of}
use Rattle.wire.proofs.Written.{determinant-short}
use Rattle.packet.specs.declared.value.Answer.{Answer}
use Rattle.packet.specs.declared.value.Answer.TheVariants as answer
use Rattle.packet.specs.Encoding.{packet_bytes, content_bytes, WellFormed}
use Rattle.packet.specs.Readers.{read_as, answer_kind, prepare_kind, prepare_value, valued}
use Rattle.packet.proofs.Packets.{content-short}
use Rattle.connector.specs.Endings.{answered_by}
use Rattle.std.specs.Str.{bytes_eq}
use Rattle.std.proofs.lemmas.Bool.{lt-ltb}
use Rattle.std.proofs.lemmas.Slice.Eq.{bytes_eq-Decides}
use Rattle.wire.specs.declared.code.RejectCode.TheVariants as code
use Rattle.packet.specs.Values.{FulfillValue, PacketValue, PrepareValue, answer_of, prepare_of}
use Rattle.packet.specs.declared.value.Prepare.{Prepare}
use Rattle.pending.specs.declared.row.Pending.{Pending}
use Rattle.protocol.specs.Messages.{Answered, fulfilled, only_answer, answer_in, only_prepare, prepare_in}
use Rattle.protocol.specs.Outcomes.{paid, ours}
use Rattle.protocol.specs.Calls.{ending_by}

-- what a reader of answers gives is what the bytes say
abbrev pub read-as-answer : Result Answer Fault → Result Answered Fault
read-as-answer (Ok x) = Ok (answered_by x)
read-as-answer (Err f) = Err f

only : (x : Answer) → only_answer (Ok (answer_of x)) ≡ Ok (answered_by x)
only (answer.Fulfill f) = refl
only (answer.Reject r) = refl

meant : (r : Result Answer Fault) → only_answer (valued answer_of r) ≡ read-as-answer r
meant (Ok x) = only x
meant (Err f) = refl

pub answer-read : (bytes : List ℕ) (r : Result Answer Fault) → valued answer_of r ≡ read_as answer_kind bytes → answer_in bytes ≡ read-as-answer r
unfolding answer_in
answer-read bytes r e = ap only_answer (sym e) ∙ meant r

abbrev pub read-as-prepare : Result Prepare Fault → Result PrepareValue Fault
read-as-prepare (Ok x) = Ok (prepare_of x)
read-as-prepare (Err f) = Err f

meant-prepare : (r : Result Prepare Fault) → only_prepare (valued prepare_value r) ≡ read-as-prepare r
meant-prepare (Ok x) = refl
meant-prepare (Err f) = refl

pub prepare-read : (bytes : List ℕ) (r : Result Prepare Fault) → valued prepare_value r ≡ read_as prepare_kind bytes → prepare_in bytes ≡ read-as-prepare r
unfolding prepare_in
prepare-read bytes r e = ap only_prepare (sym e) ∙ meant-prepare r

-- every packet fits the buffer
pub packet-short : (v : PacketValue) → WellFormed v → length (packet_bytes v) ≤ 41997
unfolding packet_bytes
packet-short v f = omega (arith, content-short v f, determinant-short (length (content_bytes v)), length-append (determinant_of (length (content_bytes v))) (content_bytes v))

module _ (digest : List ℕ → List ℕ) (now : ℕ) (bytes : List ℕ) (r : Pending) (f : FulfillValue) where
  by-hash : (b : Bool) → now < r.expiry → bytes_eq (digest f.fulfilment) r.condition ≡ b → ending_by digest now bytes r (fulfilled f) ≡ cond b (paid bytes) (ours code.WrongCondition)
  by-hash b l e =
      ap (λ t. cond t (cond (bytes_eq (digest f.fulfilment) r.condition) (paid bytes) (ours code.WrongCondition)) (ours code.TransferTimedOut)) (lt-ltb now r.expiry l)
      ∙ ap (λ t. cond t (paid bytes) (ours code.WrongCondition)) e

  pub paid-so : (x : Answered) → x ≡ fulfilled f → now < r.expiry → digest f.fulfilment ≡ r.condition → paid bytes ≡ ending_by digest now bytes r x
  paid-so x is l e = sym (by-hash true l ((bytes_eq-Decides (digest f.fulfilment) r.condition).1 e)) ∙ ap (ending_by digest now bytes r) (sym is)

  other : (digest f.fulfilment ≡ r.condition → ⊥) → (b : Bool) → bytes_eq (digest f.fulfilment) r.condition ≡ b → b ≡ false
  other differ true e = absurd (differ ((bytes_eq-Decides (digest f.fulfilment) r.condition).0 e))
  other differ false e = refl

  pub wrong-so : (x : Answered) → x ≡ fulfilled f → now < r.expiry → (digest f.fulfilment ≡ r.condition → ⊥) → ours code.WrongCondition ≡ ending_by digest now bytes r x
  wrong-so x is l differ = sym (by-hash false l (other differ (bytes_eq (digest f.fulfilment) r.condition) refl)) ∙ ap (ending_by digest now bytes r) (sym is)
