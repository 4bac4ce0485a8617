-- What is kept from call to call, in terms of the books alone.
use Rattle.std.proofs.Common.{◌≡◌, ℕ, ◌+◌, ◌<◌, ◌≤◌, ◌⊎◌, List, ◌∷◌, length, ℤ, Some, None, Option, sym, refl, ap, ◌∙◌, subst, inl, inr, arith}
use Rattle.std.specs.List.{AllByRecursion}
use Rattle.packet.specs.Values.{PrepareValue}
use Rattle.pending.specs.declared.row.Pending.{Pending}
use Rattle.pending.specs.Rows.{lookup, as_sent}
use Rattle.ledger.specs.Sums.{total, sum_in, sum_out}
use Rattle.ledger.specs.Books.{Books}
use Rattle.ledger.proofs.RowLaws.{lookup-number}
use Rattle.protocol.specs.Outcomes.{SetUp, forwarded}
use Rattle.protocol.specs.Sheet.{Event, event, prepare, Sheet, sheet, with-event, decided, hits, times_ended, time_of}
use Rattle.protocol.specs.Runs.{numbers_of, Among, Forwarding, StandsFor, PendingUntilDecided, Origin, RecordsMatch, BalancesMatch, DecidedRight, AFulfilmentNeedsTheSecretInTime, Promise}
use Rattle.protocol.proofs.RowFacts.{numbered, given, given-one, counted_none, counted-some, all_found}
use Rattle.protocol.proofs.AccountFacts.{EachMatches}

-- the sheet that books show, with these balances
abbrev pub shown : Books → (ℕ → ℤ) → Sheet
shown b bal = record { time = b.time; forwarded = b.last; rows = b.rows; balance = bal }

pub origin-more : (e : Event) (es : List Event) (r : Pending) → Origin es r → Origin (e ∷ es) r
origin-more e es r o = record { origin = o.origin; came_before = inr o.came_before; forwarding = o.forwarding; stands = o.stands; not_later = o.not_later }

-- a mark is no matter
pub stands-marked : (n : ℕ) (e : Event) (f : Forwarding n e) (r : Pending) → StandsFor n e f r → StandsFor n e f (as_sent r)
stands-marked n e f r s =
    record { number = s.number; sender = s.sender; request = s.request; outgoing = s.outgoing; amount_in = s.amount_in; condition = s.condition; amount_out = s.amount_out; expiry = s.expiry }

pub origin-marked : (es : List Event) (r : Pending) → Origin es r → Origin es (as_sent r)
origin-marked es r o =
    record { origin = o.origin; came_before = o.came_before; forwarding = o.forwarding; stands = stands-marked r.number o.origin o.forwarding r o.stands; not_later = o.not_later }

-- what is said of one forwarding twice is the same
same-forwarding : (m n : ℕ) (d e : Event) (f : Forwarding m d) (g : Forwarding n e) (r : Pending) → m ≡ n → d ≡ e → StandsFor m d f r → StandsFor n e g r
same-forwarding m n d e f g r same is s =
    let q : event (prepare f.sender f.request f.time f.bytes) (forwarded m f.outgoing (length f.packet) m) f.packet ≡ event (prepare g.sender g.request g.time g.bytes) (forwarded n g.outgoing (length g.packet) n) g.packet = sym f.is ∙ is ∙ g.is in
    let calls = ap (λ (x : Event). x.call) q in
    let replies = ap (λ (x : Event). x.reply) q in
    let packets = ap (λ (x : Event). x.packet) q in
    let a : f.sender ≡ g.sender = cc in
    let b : f.request ≡ g.request = cc in
    let x : f.bytes ≡ g.bytes = cc in
    let o : f.outgoing ≡ g.outgoing = cc in
    let w : f.packet ≡ g.packet = packets in
    let read-f = f.reads in
    let read-g = g.reads in
    let wrote-f = f.wrote in
    let wrote-g = g.wrote in
    let asked : f.asked ≡ g.asked = cc in
    let went : f.went ≡ g.went = cc in
    record {
      number = s.number ∙ same;
      sender = s.sender ∙ a;
      request = s.request ∙ b;
      outgoing = s.outgoing ∙ o;
      amount_in = s.amount_in ∙ ap (λ (p : PrepareValue). p.amount) asked;
      condition = s.condition ∙ ap (λ (p : PrepareValue). p.condition) asked;
      amount_out = s.amount_out ∙ ap (λ (p : PrepareValue). p.amount) went;
      expiry = s.expiry ∙ ap (λ (p : PrepareValue). p.expiry) went;
    }

-- the numbers under which packets were forwarded
pub record Numbered (es : List Event) (last : ℕ) : Type 0 where
  pub low : (n : ℕ) (e : Event) → Among e es → Forwarding n e → (0 < n) × (n ≤ last)
  pub one : (n : ℕ) (e d : Event) → Among e es → Among d es → Forwarding n e → Forwarding n d → e ≡ d

pub numbered_more : (e : Event) (es : List Event) (last last' : ℕ) → ((n : ℕ) → Forwarding n e → (n ≡ last + 1) × (last' ≡ last + 1)) → last ≤ last' → Numbered es last → Numbered (e ∷ es) last'
numbered_more e es last last' new up k = record { low = low; one = one }
  where
    low : (n : ℕ) (d : Event) → Among d (e ∷ es) → Forwarding n d → (0 < n) × (n ≤ last')
    low n d (inl q) f = let g = new n (subst (Forwarding n) (sym q) f) in (omega (arith, g.0), omega (arith, g.0, g.1))
    low n d (inr h) f = let g = k.low n d h f in (g.0, omega (arith, g.1))

    apart : (n : ℕ) (d x : Event) → e ≡ d → Among x es → Forwarding n d → Forwarding n x → ⊥
    apart n d x q h f g =
        let w = new n (subst (Forwarding n) (sym q) f) in
        let v = k.low n x h g in
        absurd (omega (arith, w.0, v.1))

    one : (n : ℕ) (d x : Event) → Among d (e ∷ es) → Among x (e ∷ es) → Forwarding n d → Forwarding n x → d ≡ x
    one n d x (inl q) (inl p) f g = sym q ∙ p
    one n d x (inl q) (inr h) f g = absurd (apart n d x q h f g)
    one n d x (inr h) (inl p) f g = absurd (apart n x d p h g f)
    one n d x (inr h) (inr i) f g = k.one n d x h i f g

module _ (digest : List ℕ → List ℕ) {St : Type 0} (held : St → List ℕ) (s : SetUp) (first : Books) where
  pub record Kept (es : List Event) (b : Books) (p : St) : Type 0 where
    pub bal : ℕ → ℤ
    pub is : sheet digest es ≡ shown b bal
    pub opened : held p ≡ numbers_of b.rows
    pub once : (n : ℕ) → times_ended digest n es + total (numbered n) b.rows ≡ given b.last n
    pub numbers : Numbered es b.last
    pub origins : AllByRecursion (Origin es) b.rows
    pub accounts : EachMatches first.accounts bal (λ k. sum_in k b.rows) (λ k. sum_out k b.rows) b.accounts
    pub decisive : AFulfilmentNeedsTheSecretInTime digest s.own es

  -- one event more
  pub push : (e : Event) (es : List Event) (b b' : Books) (p p' : St) (k : Kept es b p) (bal' : ℕ → ℤ) (d : Option Pending) →
      with-event digest e (shown b k.bal) ≡ shown b' bal' →
      decided e (shown b k.bal) ≡ d →
      held p' ≡ numbers_of b'.rows →
      ((n : ℕ) → hits n d + total (numbered n) b'.rows + given b.last n ≡ total (numbered n) b.rows + given b'.last n) →
      ((n : ℕ) → Forwarding n e → (n ≡ b.last + 1) × (b'.last ≡ b.last + 1)) →
      b.last ≤ b'.last →
      AllByRecursion (Origin (e ∷ es)) b'.rows →
      EachMatches first.accounts bal' (λ k. sum_in k b'.rows) (λ k. sum_out k b'.rows) b'.accounts →
      ((r : Pending) → d ≡ Some r → DecidedRight digest s.own (time_of b.time e.call) es e r) →
      Kept (e ∷ es) b' p'
  push e es b b' p p' k bal' d n dd h counts new up origins accounts right =
      record {
        bal = bal';
        is = ap (with-event digest e) k.is ∙ n;
        opened = h;
        once = λ m. omega (arith, counts m, k.once m, ap (hits m) (ap (decided e) k.is ∙ dd));
        numbers = numbered_more e es b.last b'.last new up k.numbers;
        origins = origins;
        accounts = accounts;
        decisive = (
          subst (λ (w : Sheet). (r : Pending) → decided e w ≡ Some r → DecidedRight digest s.own (time_of w.time e.call) es e r) (sym k.is)
              (λ r q. right r (sym dd ∙ q)),
          k.decisive,
        );
      }

  -- a forwarded packet is pending or was ended once
  until : (es : List Event) (b : Books) (p : St) → Kept es b p → PendingUntilDecided digest es b
  until es b p k n e h f = go (total (numbered n) b.rows) refl
    where
      bound : times_ended digest n es + total (numbered n) b.rows ≡ 1
      bound = let l = k.numbers.low n e h f in k.once n ∙ given-one b.last n l.0 l.1

      standing : (r : Pending) → lookup n b.rows ≡ Some r → StandsFor n e f r
      standing r found =
          let o = all_found (Origin es) n b.rows r found k.origins in
          let same : r.number ≡ n = lookup-number n b.rows r found in
          let g : Forwarding n o.origin = subst (λ m. Forwarding m o.origin) same o.forwarding in
          same-forwarding r.number n o.origin e o.forwarding f r same (k.numbers.one n o.origin e o.came_before h g f) o.stands

      go : (c : ℕ) → total (numbered n) b.rows ≡ c → ((times_ended digest n es ≡ 0) × (r : Pending) × (lookup n b.rows ≡ Some r) × StandsFor n e f r) ⊎ ((times_ended digest n es ≡ 1) × (lookup n b.rows ≡ None))
      go Prim.Native.Nat.zero t = inr (omega (arith, bound), counted_none n b.rows t)
      go (Prim.Native.Nat.suc c) t =
          let none : times_ended digest n es ≡ 0 = omega (arith, bound) in
          let found = counted-some n b.rows (omega (arith, bound)) in
          inl (none, found.0, found.1, standing found.0 found.1)

  pub promised : (es : List Event) (b : Books) (p : St) → Kept es b p → Promise digest held s first es b p
  promised es b p k =
      record {
        records_match_the_sheet = subst (λ (w : Sheet). RecordsMatch held w b p) (sym k.is) (record { rows = refl; open_numbers = k.opened; time = refl; last = refl });
        pending_until_its_decisive_call = until es b p k;
        balances_match_the_sheet = subst (λ (w : Sheet). BalancesMatch first w b) (sym k.is) (record { same_accounts = k.accounts.0; each = k.accounts.1 });
        a_fulfilment_needs_the_secret_in_time = k.decisive;
      }
