mod EdgeFigures
