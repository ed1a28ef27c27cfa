mod OneStage
