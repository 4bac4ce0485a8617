use Rattle.std.proofs.Common.{[], ◌∷◌, ◌++◌, refl, ap, ◌∙◌}
use Rattle.packet.specs.Values.{prepare_of}
use Rattle.stage.specs.Verdicts.{open_after}
use Rattle.connector.specs.Decisions.{goes_to}
use Rattle.connector.specs.Views.{books_of}
use Rattle.connector.proofs.Deciding.{reserved-as, same-forwarded}
use Rattle.connector.proofs.connector.Connector.forward.Goals as goal

pub returns : goal.returns
returns g c =
    let k = c.args.self.now in
    let o = c.args.onward in
    let ready = c.requires.ready in
    let open-before = g.S.Stage.held k.stages in
    record {
      value = same-forwarded _ _ _ _ _ _ _ _ ready.1 c.outgoing-to.ensures.value c.write_onward.ensures.end (c.new.ensures ∙ ready.1);
      buffer = c.write_onward.ensures.is;
      books = reserved-as (books_of k) c.args.account c.args.request c.outgoing-to.result (goes_to o) (prepare_of c.args.prepare.now) o.passed _ c.reserve.result _
          c.outgoing-to.ensures.value
          c.copy_from_slice.ensures.after
          (ready.3 c.args.request)
          c.reserve.ensures.value
          c.reserve.ensures.books;
      numbers = c.take.ensures.numbers ∙ ap (open_after open-before o.transfer) ready.0 ∙ ap (λ n. open-before ++ n ∷ []) ready.1;
      kept = record { routes = refl; own = refl; hash = refl };
    }
