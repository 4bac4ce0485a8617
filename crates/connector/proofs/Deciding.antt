-- What is decided of a Prepare, by the tests that the code makes.
use Rattle.std.proofs.Common.{◌≡◌, ℕ, ◌+◌, ◌<◌, ◌≤◌, true, false, cond, not, leb, List, is_some, Some, Ok, Option, sym, ap, ◌∙◌, Result}
use Rattle.std.specs.Bool.{then_some}
use Rattle.std.proofs.lemmas.Bool.{le-leb, lt-leb, and_from, ne_eqb}
use Rattle.wire.specs.declared.code.RejectCode.TheVariants as code
use Rattle.packet.specs.Values.{PrepareValue}
use Rattle.stage.specs.declared.accounts.AccountPair.{AccountPair}
use Rattle.stage.specs.declared.transfer.Transfer.{Transfer}
use Rattle.stage.specs.declared.transfer.Passed.{Passed}
use Rattle.stage.specs.declared.transfer.Rejected.{Rejected}
use Rattle.accounts.specs.Figures.{can_hold_in, can_hold_out}
use Rattle.pending.specs.Tables.{is_full}
use Rattle.ledger.specs.Books.{Books, has_number, can_reserve, next_row, admitted}
use Rattle.ledger.specs.declared.reservation.Reservation.{Reservation}
use Rattle.routing.specs.Routes.{route_for}
use Rattle.protocol.specs.Pairs.{pair_of}
use Rattle.protocol.specs.Outcomes.{SetUp, Outcome, forwarded}
use Rattle.protocol.specs.Calls.{offered, plain_reject, by_prepare, by_route, by_pair, by_verdict, reservation_for}

module _ (look : Transfer → Result Passed Rejected) (s : SetUp) (b : Books) (a q : ℕ) (p : PrepareValue) where
  abbrev all : Outcome
  all = by_prepare look s b a q b.time (Ok p)

  abbrev routed : Outcome
  routed = by_route look b a q b.time p (route_for s.routes p.destination)

  abbrev timely : Outcome
  timely = cond (leb p.expiry b.time) (plain_reject b.time a q code.TransferTimedOut) routed

  abbrev roomy : Outcome
  roomy = cond (is_full b.rows) (plain_reject b.time a q code.ConnectorBusy) timely

  pub no_number : has_number b ≡ false → plain_reject b.time a q code.InternalError ≡ all
  no_number e = sym (ap (λ x. cond x roomy (plain_reject b.time a q code.InternalError)) e)

  pub full : has_number b ≡ true → true ≡ is_full b.rows → plain_reject b.time a q code.ConnectorBusy ≡ all
  full n e =
      sym (ap (λ x. cond x roomy (plain_reject b.time a q code.InternalError)) n ∙ ap (λ x. cond x (plain_reject b.time a q code.ConnectorBusy) timely) (sym e))

  pub late : has_number b ≡ true → false ≡ is_full b.rows → p.expiry ≤ b.time → plain_reject b.time a q code.TransferTimedOut ≡ all
  late n e l =
      sym (ap (λ x. cond x roomy (plain_reject b.time a q code.InternalError)) n ∙ ap (λ x. cond x (plain_reject b.time a q code.ConnectorBusy) timely) (sym e)
      ∙ ap (λ x. cond x (plain_reject b.time a q code.TransferTimedOut) routed) (le-leb p.expiry b.time l))

  -- so far nothing is against it
  pub record Clear : Type 0 where
    pub number : has_number b ≡ true
    pub room : false ≡ is_full b.rows
    pub timely-yet : b.time < p.expiry

  pub on-route : Clear → (o : Option ℕ) → o ≡ route_for s.routes p.destination → by_route look b a q b.time p o ≡ all
  on-route c o e =
      ap (by_route look b a q b.time p) e
      ∙ sym (ap (λ x. cond x roomy (plain_reject b.time a q code.InternalError)) c.number ∙ ap (λ x. cond x (plain_reject b.time a q code.ConnectorBusy) timely) (sym c.room)
      ∙ ap (λ x. cond x (plain_reject b.time a q code.TransferTimedOut) routed) (lt-leb p.expiry b.time c.timely-yet))

  pub paired : Clear → (to : ℕ) (x : Option AccountPair) → Some to ≡ route_for s.routes p.destination → x ≡ pair_of a to → by_pair look b a q b.time p to x ≡ all
  paired c to x e f = ap (by_pair look b a q b.time p to) f ∙ on-route c (Some to) e

  pub no-credit-in : Clear → (to : ℕ) (x : AccountPair) → Some to ≡ route_for s.routes p.destination → Some x ≡ pair_of a to → false ≡ can_hold_in b.accounts a p.amount → plain_reject b.time a q code.InsufficientLiquidity ≡ all
  no-credit-in c to x e f h =
      sym (ap (λ y. cond y (by_verdict b a q b.time p to (look (offered b b.time p x))) (plain_reject b.time a q code.InsufficientLiquidity)) (sym h)) ∙ paired c to (Some x) e f

  pub looked : Clear → (to : ℕ) (x : AccountPair) (v : Result Passed Rejected) → Some to ≡ route_for s.routes p.destination → Some x ≡ pair_of a to → true ≡ can_hold_in b.accounts a p.amount → v ≡ look (offered b b.time p x) → by_verdict b a q b.time p to v ≡ all
  looked c to x v e f h w =
      ap (by_verdict b a q b.time p to) w
      ∙ sym (ap (λ y. cond y (by_verdict b a q b.time p to (look (offered b b.time p x))) (plain_reject b.time a q code.InsufficientLiquidity)) (sym h))
      ∙ paired c to (Some x) e f

  -- the transfer that the code makes is the one that is offered
  pub offered-so : (x : AccountPair) (n t : ℕ) → n ≡ b.last + 1 → t ≡ b.time → look (record { number = n; accounts = x; amount = p.amount; expiry = p.expiry; time = t }) ≡ look (offered b b.time p x)
  offered-so x n t e f =
      ap (λ m. look (record { number = m; accounts = x; amount = p.amount; expiry = p.expiry; time = t })) e
      ∙ ap (λ u. look (record { number = b.last + 1; accounts = x; amount = p.amount; expiry = p.expiry; time = u })) f

-- what all the tests together allow to be reserved
pub can-reserve : (b : Books) (a q to m : ℕ) (p : PrepareValue) (v : Passed) → has_number b ≡ true → false ≡ is_full b.rows → true ≡ can_hold_in b.accounts a p.amount → true ≡ can_hold_out b.accounts to v.amount → (a ≡ to → ⊥) → can_reserve b (reservation_for a q p to v) ≡ true
can-reserve b a q to m p v n e i o d =
    and_from _ _ (and_from _ _ n (ap not (sym e))) (and_from _ _ (and_from _ _ (sym i) (sym o)) (ap not (ne_eqb a to d)))

-- a reservation by its parts
same-reservation : (a q to o m n x : ℕ) (c d : List ℕ) → to ≡ o → c ≡ d → ◌≡◌ {A = Reservation} (record { hold = record { sender = a; outgoing = to; amount_in = m; amount_out = n }; request = q; expiry = x; condition = c }) (record { hold = record { sender = a; outgoing = o; amount_in = m; amount_out = n }; request = q; expiry = x; condition = d })
same-reservation a q to o m n x c d e f = cc

abbrev asked-for : (a q to : ℕ) → PrepareValue → Passed → List ℕ → Reservation
asked-for a q to p v c = record { hold = record { sender = a; outgoing = to; amount_in = p.amount; amount_out = v.amount }; request = q; expiry = v.expiry; condition = c }

pub reserved-as : (b : Books) (a q to o : ℕ) (p : PrepareValue) (v : Passed) (c : List ℕ) (r : Option ℕ) (d : Books) →
    to ≡ o → c ≡ p.condition → can_reserve b (reservation_for a q p o v) ≡ true →
    r ≡ then_some (can_reserve b (asked-for a q to p v c)) (b.last + 1) → d ≡ cond (is_some r) (admitted (next_row b (asked-for a q to p v c)) b) b → d ≡ admitted (next_row b (reservation_for a q p o v)) b
reserved-as b a q to o p v c r d e f can told is =
    let same = same-reservation a q to o p.amount v.amount v.expiry c p.condition e f in
    is
    ∙ ap (λ x. cond (is_some x) (admitted (next_row b (asked-for a q to p v c)) b) b) (told ∙ ap (λ w. then_some (can_reserve b w) (b.last + 1)) same ∙ ap (λ t. then_some t (b.last + 1)) can)
    ∙ ap (λ w. admitted (next_row b w) b) same

pub same-forwarded : (n a l d m o k e : ℕ) → n ≡ m → a ≡ o → l ≡ k → d ≡ e → forwarded n a l d ≡ forwarded m o k e
same-forwarded n a l d m o k e f g h i = cc
