use Rattle.std.proofs.Common.{sym, refl, subst}
use Rattle.ledger.specs.Books.{Sound}
use Rattle.ledger.specs.Views.{view}
use Rattle.ledger.proofs.Same.{same_books}
use Rattle.ledger.proofs.Stays.{sound-marked}
use Rattle.ledger.proofs.ledger.Ledger.mark.Goals as goal

pub invariant_of-self : goal.invariant_of-self
invariant_of-self c =
    let l = c.args.self.now in
    record { sound = subst Sound (sym (same_books l.time l.last _ _ _ _ c.mark.ensures.rows refl)) (sound-marked c.args.number (view l) l.sound) }
