-- Runs over any stage. Assumes nothing.
use Rattle.std.proofs.Common.{◌≡◌, ℕ, ◌+◌, ◌<◌, true, List, [], ◌∷◌, ◌++◌, length, get_or, take, Option, Result, sym, refl, ap, ◌∙◌, subst}
use Rattle.std.proofs.lemmas.List.{take_more}
use Rattle.stage.specs.declared.transfer.Transfer.{Transfer}
use Rattle.stage.specs.declared.transfer.Passed.{Passed}
use Rattle.stage.specs.declared.transfer.Rejected.{Rejected}
use Rattle.stage.specs.declared.change.Change.{Change}
use Rattle.stage.specs.declared.change.Change.TheVariants.{Take, Close}
use Rattle.stage.specs.Numbers.{none_twice}
use Rattle.stage.specs.Runs.{Step, Run, open_next, open_since, RunsKeepTheNumbers}

module _ {St : Type 0} (held : St → List ℕ) (rule : St → Transfer → Result Passed Rejected) where
  stepped : (s m : St) (c : Change) (a : Option (Result Passed Rejected)) → Step held rule s c a m → held m ≡ open_next (held s) c a
  stepped s m (Take t) a st = st.1 ∙ ap (open_next (held s) (Take t)) (sym st.0)
  stepped s m (Close n) a st = st.1

  pub runs-keep : ((s : St) → none_twice (held s) ≡ true) → RunsKeepTheNumbers held rule
  runs-keep once s s' [] [] r = (ap held r, once s')
  runs-keep once s s' [] (a ∷ bs) r = elim r [ ]
  runs-keep once s s' (c ∷ cs) [] r = elim r [ ]
  runs-keep once s s' (c ∷ cs) (a ∷ bs) (mid, st, r) =
      ((runs-keep once mid s' cs bs r).0 ∙ ap (λ xs. open_since xs cs bs) (stepped s mid c a st), once s')

  -- one change more
  run_more : (s m s' : St) (cs : List Change) (bs : List (Option (Result Passed Rejected))) (c : Change) (a : Option (Result Passed Rejected)) → Run held rule s cs bs m → Step held rule m c a s' → Run held rule s (cs ++ (c ∷ [])) (bs ++ (a ∷ [])) s'
  run_more s m s' [] [] c a r st = (s', subst (λ (x : St). Step held rule x c a s') r st, refl)
  run_more s m s' [] (x ∷ bs) c a r st = elim r [ ]
  run_more s m s' (d ∷ cs) [] c a r st = elim r [ ]
  run_more s m s' (d ∷ cs) (x ∷ bs) c a (mid, first, r) st = (mid, first, run_more mid m s' cs bs c a r st)

  pub run-next : (s m s' : St) (cs : List Change) (bs : List (Option (Result Passed Rejected))) (i : ℕ) (d : Change) (a : Option (Result Passed Rejected)) → i < length cs → Run held rule s (take i cs) bs m → Step held rule m (get_or cs i d) a s' → Run held rule s (take (i + 1) cs) (bs ++ (a ∷ [])) s'
  run-next s m s' cs bs i d a within r st = rw (take_more cs i d within) (run_more s m s' (take i cs) bs (get_or cs i d) a r st)
