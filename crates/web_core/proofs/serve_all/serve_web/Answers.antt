-- what it has done is a run of messages
use Rattle.service_core.specs.Seen.{settings_of, tables_of}
use Rattle.http_rules.specs.Expectation.{StatesByRules}
use Rattle.web_core.specs.Web.{TakenToo, shuts}
use Rattle.web_core.proofs.RunLemmas.{served_messages}
use Rattle.web_core.proofs.serve_all.serve_web.Goals as goal

pub returns-clause-ran : goal.returns-clause-ran
returns-clause-ran g c =
    served_messages (λ d. d.https) (λ d. d.proxied) (λ d. settings_of g.S.Store d.desk)
    (λ d. tables_of g.S.Store d.desk) (λ d. g.C.System.told d.system)
    (TakenToo g.S.Store g.C.System.made) StatesByRules (shuts g.S.Store)
    (g.H.Host.told c.args.host.now) (g.H.Host.told c.serve.new.host)
    (g.H.Host.calls c.args.host.now) (g.H.Host.calls c.serve.new.host)
    c.run_law.ensures c.args.places c.args.most c.args.desk.now c.serve.new.desk c.serve.result
    c.serve.ensures.ok
