use Rattle.std.proofs.Common.{◌≡◌, ap, sym, ◌∙◌}
use Rattle.item_tree.specs.declared.mod_path.ModPath.{ModPath}
use Rattle.def_calls.specs.Shown.{kind_of}
use Rattle.macro_calls.proofs.PathLemmas.{cloned_path}
use Rattle.def_rules.specs.declared.outcome.LeftMacro.{LeftMacro}
use Rattle.def_rules.specs.declared.outcome.LeftMacroKind.{LeftMacroKind}
use Rattle.def_rules.specs.declared.outcome.LeftMacroKind.TheVariants.{Attr, Derive, Fn}
use Rattle.def_rules.specs.Report.{left_kind}
use Rattle.def_calls.proofs.directives.left_macro.Goals as goal
use Rattle.def_calls.proofs.directives.left_macro.Goals.{in-FnLike+in_ok-clone-in-FnLike, in-Attr+in_ok-clone-in-Attr, in-Derive+in_ok-clone-in-Derive}

pub returns : goal.returns
returns c =
    let d = c.args.directive.now in
    let shown : LeftMacroKind × ModPath → LeftMacro = λ p. record { «module» = d.module_id; ast_id = d.position; kind = p.0; path = p.1; depth = d.depth } in
    let kind : c.match-directive.kind ≡ left_kind (kind_of d.kind) =
    elim c.match-directive.branch [
      | in-FnLike+in_ok-clone-in-FnLike w ↦
          w.kind-is ∙ ap (λ p. (Fn, p)) (cloned_path w.in-FnLike.written.path.now _ w.in_ok-clone-in-FnLike.ensures.cases) ∙ sym (ap (λ k. left_kind (kind_of k)) w.in-FnLike.is)
      | in-Attr+in_ok-clone-in-Attr w ↦
          w.kind-is ∙ ap (λ p. (Attr w.in-Attr.written.attr_id, p)) (cloned_path w.in-Attr.written.attr.now.path _ w.in_ok-clone-in-Attr.ensures.cases) ∙ sym (ap (λ k. left_kind (kind_of k)) w.in-Attr.is)
      | in-Derive+in_ok-clone-in-Derive w ↦
          w.kind-is
          ∙ ap (λ p. (Derive w.in-Derive.written.attr_id w.in-Derive.written.pos, p)) (cloned_path w.in-Derive.written.path.now _ w.in_ok-clone-in-Derive.ensures.cases)
          ∙ sym (ap (λ k. left_kind (kind_of k)) w.in-Derive.is)
    ] in
    ap shown kind
